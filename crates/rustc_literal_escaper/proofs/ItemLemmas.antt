-- The elements of texts that consist of plain characters.
use Rattle.std.proofs.Common.{◌≡◌, ℕ, Bool, true, List, [], ◌∷◌, length, map, ap, arith}
use Rattle.std.specs.{List.{list_all}, Str.{chars}}
use Rattle.std.proofs.lemmas.{Bool.{and_parts, not-true}, Grind.{common_steps}}
use Rattle.rustc_literal_escaper.specs.Items.{elements_in, is_plain, StandsForItself}
use Rattle.rustc_literal_escaper.specs.laws.Elements.{nothing, items-one}
use Rattle.rustc_literal_escaper.specs.model.Elements.{front_by, item_at, items_from, one, front, place, raw_front}
use Rattle.rustc_literal_escaper.specs.declared.element.Element.TheVariants.{Plain}

pub front_by-plain : (raw : Bool) (c : ℕ) (s : List ℕ) → is_plain raw c ≡ true → front_by raw c s ≡ one (Plain c, s)
unfolding front raw_front
front_by-plain raw c s e = grind (arith, common_steps, not-true, and_parts)

-- A plain character is one item.
pub items-plain : (raw : Bool) (total c : ℕ) (s : List ℕ) → is_plain raw c ≡ true
    → items_from (front_by raw) total (c ∷ s) ≡ item_at total (place total (c ∷ s)) (Plain c, s) ∷ items_from
    (front_by raw) total s
items-plain raw total c s e = items-one raw (place total) c s s (Plain c) (front_by-plain raw c s e)

pub stands_for_itself : (raw : Bool) (text : List ℕ) → StandsForItself raw text
stands_for_itself raw text e = plain-items (chars text) e
  where
    plain-items : (s : List ℕ) → list_all (is_plain raw) s ≡ true
        → elements_in (items_from (front_by raw) (length text) s) ≡ map Plain s
    plain-items [] e = ap elements_in (nothing (front_by raw) (place (length text)))
    plain-items (c ∷ s) e = grind (arith, common_steps, and_parts, items-plain, plain-items s)
