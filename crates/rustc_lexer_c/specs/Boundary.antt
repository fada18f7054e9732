-- Token boundaries of a text, as C sees them.
use Rattle.std.specs.Prelude.{ℕ, ◌≡◌, ◌↔◌, ◌≤◌, List, drop, take}
use Rattle.rustc_lexer.specs.declared.edition.Edition.{Edition}
use Rattle.rustc_lexer.specs.Joined.{MayTouch}

-- Holds if the number is 1 exactly if the texts before and after the offset may touch, and otherwise 0.
pub record IsBoundaryAt (bytes : List ℕ) (at : ℕ) (edition : Edition) (number : ℕ) : Type 0 where
  pub boundary : number ≡ 1 ↔ MayTouch edition (take at bytes) (drop at bytes)
  pub bit : number ≤ 1
