-- The first offset at which a test passes.
use Rattle.std.proofs.lemmas.Grind.{common_steps}
use Rattle.std.proofs.Common.{◌≡◌, ℕ, suc, ◌+◌, Bool, true, false, List, ◌∷◌, Option, Some, None, refl, arith}
use Rattle.rustc_lexer.specs.model.Least.{one_more, more}
use Rattle.rustc_lexer.specs.model.Raw.{least_offset}

-- A test that passes at the front has offset 0.
module _ (test : List ℕ → Bool) where
  pub offset-here : (c : ℕ) (s : List ℕ) → test (c ∷ s) ≡ true → least_offset test (c ∷ s) ≡ Some 0
  offset-here c s e = rw e refl

  pub offset-on : (c : ℕ) (s : List ℕ) → test (c ∷ s) ≡ false
      → least_offset test (c ∷ s) ≡ one_more (least_offset test s)
  offset-on c s e = rw e refl

pub more-zero : (o : Option ℕ) → o ≡ more 0 o
more-zero o = grind (arith, common_steps)

pub one_more-more : (k : ℕ) (o : Option ℕ) → one_more (more k o) ≡ more (suc k) o
one_more-more k o = grind (arith, common_steps)

pub one_more-none : (o : Option ℕ) → one_more o ≡ None → o ≡ None
one_more-none o w1 = grind (arith, common_steps)

pub more-more : (m n : ℕ) (o : Option ℕ) → more m (more n o) ≡ more (m + n) o
more-more m n o = grind (arith, common_steps)
