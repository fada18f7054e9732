-- Consecutive writes, as the calls that they consist of.
use Rattle.std.proofs.Common.{List, [], ◌∷◌, ◌++◌, ℕ, refl, sym, subst, append-nil, arith}
use Rattle.std.proofs.lemmas.List.Folds.{concat-append}
use Rattle.std.specs.{Fmt.{WritesInCalls}, List.{FoldsTo}, Result.{IsOk}, Prelude.{OnOk, Result}}
use Rattle.std.proofs.lemmas.Grind.{common_steps}

-- Two folds over consecutive lists make one fold over both.
folds-append : {P A : Type 0} (R : P → A → P → Type 0) (p q r : P) (xs ys : List A) → FoldsTo R p xs q
    → FoldsTo R q ys r → FoldsTo R p (xs ++ ys) r
folds-append R p q r [] ys e f = subst (λ (a : _). FoldsTo R a ys r) (sym e) f
folds-append R p q r (x ∷ xs) ys e f = (e.0, e.1, folds-append R e.0 q r xs ys e.2 f)

pub on_ok : {T E : Type 0} (r : Result T E) {P Q : Type 0} → (IsOk r → P) → (P → Q) → OnOk r Q
on_ok r holds more = grind (arith, common_steps)

module _ {W : Type 0} (took : W → List ℕ → W → Type 0) where
  -- A single call writes a text.
  pub one_call : (w v : W) (bs : List ℕ) → took w bs v → WritesInCalls took w bs v
  one_call w v bs call = record { parts = bs ∷ []; calls = (v, call, refl); whole = append-nil bs }

  -- The same holds for a call that can fail.
  pub tried_call : {T E : Type 0} (r : Result T E) (w v : W) (bs : List ℕ) → (IsOk r → took w bs v)
      → OnOk r (WritesInCalls took w bs v)
  tried_call r w v bs call = on_ok r call (one_call w v bs)

  pub no_calls : (w : W) → WritesInCalls took w [] w
  no_calls w = record { parts = []; calls = refl; whole = refl }

  -- Two consecutive writes write both texts.
  pub writes_both : (w v u : W) (bs cs : List ℕ) → WritesInCalls took w bs v → WritesInCalls took v cs u
      → WritesInCalls took w (bs ++ cs) u
  writes_both w v u bs cs first second = grind (arith, common_steps, folds-append, concat-append)
