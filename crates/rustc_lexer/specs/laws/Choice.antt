-- A property of each branch of a choice is a property of the choice.
use Rattle.std.proofs.{lemmas.Grind.{common_steps}, Common.{arith}}
use Rattle.std.proofs.Common.{◌≡◌, ℕ, Bool, true, false, if◌then◌else◌, List, [], ◌∷◌, refl, Option, Some, None}
use Rattle.std.proofs.lemmas.Bool.{and_parts}
use Rattle.std.specs.List.{list_all}
use Rattle.rustc_lexer.specs.{TokenKind, Unknown}
use Rattle.rustc_lexer.specs.Tables.{kind_among}

-- A choice has a property if each branch has it under its condition.
pub by_test : {A : Type 0} (P : A → Type 0) (b : Bool) (x y : A) → (b ≡ true → P x) → (b ≡ false → P y)
    → P (if b then x else y)
by_test P b x y w4 w5 = grind (arith, common_steps)

-- A proof can distinguish the two results of a test.
pub by_either : {A : Type 0} (b : Bool) → (b ≡ true → A) → (b ≡ false → A) → A
by_either true t f = t refl
by_either false t f = f refl

-- A proof can distinguish whether a search finds something.
pub by_found : {A B : Type 0} (o : Option A) → ((x : A) → o ≡ Some x → B) → (o ≡ None → B) → B
by_found (Some x) found lost = found x refl
by_found None found lost = lost refl

-- If the test passes for every symbol in a list and for `Unknown`, it passes for the kind of any character.
pub by_symbol : (p : TokenKind → Bool) (ss : List (ℕ × TokenKind)) (c : ℕ)
    → list_all (λ (s : ℕ × TokenKind). p s.1) ss ≡ true → p Unknown ≡ true → p (kind_among ss c) ≡ true
by_symbol p [] c all unknown = unknown
by_symbol p (s ∷ ss) c all unknown =
    grind (
      arith,
      common_steps,
      and_parts,
      by_test,
      by_symbol p ss c (and_parts (p s.1) (list_all (λ (s : ℕ × TokenKind). p s.1) ss) all).1 unknown,
    )
