-- Consumers of items that can stop at any item.
use Rattle.std.specs.Prelude.{◌≡◌, Bool, true, false, List, [], ◌∷◌, ◌++◌}
use Rattle.std.specs.Prelude.{ℕ}
use Rattle.std.specs.declared.ops.Range.{Range}
use Rattle.rustc_literal_escaper.specs.declared.element.Element.TheVariants.{Plain}
use Rattle.rustc_literal_escaper.specs.Grammar.{Item}
use Rattle.rustc_literal_escaper.specs.model.Plain.{is_simple}

-- Holds if consuming the first of these items changes the state from `s` to `t`, and `left` remain. Either all items
-- are consumed, or the last one consumed is the first for which the consumer returns false.
pub data Runs {S : Type 0} (took : S → Item → Bool → S → Type 0) : S → List Item → S → List Item
    → Type 0 where
  all : {s : S} → Runs took s [] s []
  more : {s u t : S} {item : Item} {items left : List Item}
      → took s item true u
      → Runs took u items t left
      → Runs took s (item ∷ items) t left
  enough : {s t : S} {item : Item} {items : List Item}
      → took s item false t
      → Runs took s (item ∷ items) t items

-- Holds if the consumer consumes the items `found`, or stops at one of them, whatever items follow them.
abbrev pub Takes : {S : Type 0} → (S → Item → Bool → S → Type 0) → S → List Item → Bool → S → Type 0
Takes {S} took s found on u =
    (t : S) (items left : List Item)
    → (on ≡ true → Runs took u items t left)
    → (on ≡ false → (u ≡ t) × (items ≡ left))
    → Runs took s (found ++ items) t left

-- Holds if the consumer in this state consumes any simple character without a change.
abbrev pub IgnoresSimple : {S : Type 0} → (S → Item → Bool → S → Type 0) → S → Type 0
IgnoresSimple took s = (raw : Bool) (c : ℕ) (range : Range ℕ) → is_simple raw c ≡ true → took s (range, Plain c) true s
