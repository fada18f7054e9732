-- The contents of a literal in a file, and the same contents with LF line endings.
use Rattle.std.proofs.Common.{◌≡◌, ℕ, zero, suc, add-zero, ◌+◌, ◌≤◌, ◌⊎◌, inl, inr, nat_lt, get_or, append-nil}
use Rattle.std.proofs.Common.{IsCharBoundary, IsUtf8, Bool, true, List, [], ◌∷◌, length, map, refl, ap, arith}
use Rattle.std.proofs.Common.{Option}
use Rattle.std.proofs.lemmas.{Bool.{cases_lt, Decides.{nat_tests}}, Grind.{common_steps}, List.{map-append}}
use Rattle.std.proofs.lemmas.List.Elements.{All-cons, All-head, All-nil, All-tail}
use Rattle.rustc_literal_escaper.proofs.PlacedLemmas.{are_placed}
use Rattle.rustc_literal_escaper.specs.{Answers.{items_of}, Grammar.{Item}}
use Rattle.rustc_literal_escaper.specs.Items.{ArePlaced, IsPlaced}
use Rattle.rustc_literal_escaper.specs.declared.mode.Mode.{Mode}
use Rattle.rustc_literal_escaper.specs.laws.Escape.{by_either}
use Rattle.rustc_lexer_errors.specs.LineEnds.{ends_line, file_items, moved, place, unix}
use Rattle.rustc_lexer_highlight.specs.{Literal.{moved_stretch, stretch}, declared.literal.Look.{Look}}
use Rattle.rustc_lexer_errors.specs.model.LineEnds.{is_whole}
use Rattle.rustc_lexer_highlight.specs.model.Literal.{stretches_from}
use Rattle.rustc_lexer_errors.proofs.LineEndLemmas.{place-append, place_less, utf8-unix}

-- ---- offsets

whole-nil : (s : List ℕ) → is_whole s [] ≡ true
whole-nil s = grind (arith, common_steps, nat_tests)

pub place-end : (s : List ℕ) → place s (length (unix s)) ≡ length s
place-end s = rw (append-nil s, add-zero (length (unix s)), add-zero (length s)) at (place-append s [] 0 (whole-nil s))

-- The byte at a converted offset is the same byte, or a carriage return.
place-byte : (s : List ℕ) (i : ℕ) → (get_or s (place s i) 0 ≡ get_or (unix s) i 0) ⊎ (get_or s (place s i) 0 ≡ 13)
place-byte [] zero = inl refl
place-byte [] (suc i) = inl refl
place-byte (c ∷ s) zero = by_either (ends_line c s) (λ ends. inr (grind (arith, common_steps, nat_tests)))
    (λ stays. rw stays (inl refl))
place-byte (c ∷ s) (suc i) =
    by_either (ends_line c s) (λ ends. rw ends (place-byte s (suc i))) (λ stays. rw stays (place-byte s i))

pub place-le : (s : List ℕ) (i j : ℕ) → i ≤ j → place s i ≤ place s j
place-le s i j le = elim (cases_lt i j) [
  | inl less ↦ omega (arith, place_less s i j less)
  | inr more ↦ let same : i ≡ j = omega arith in omega (arith, ap (place s) same)
]

place-boundary : (s : List ℕ) (i : ℕ) → IsCharBoundary (unix s) i → IsCharBoundary s (place s i)
place-boundary s i at =
    grind (arith, common_steps, place-le s i (length (unix s)) at.0, place-end s, place-byte, cases_lt)

placed-moved : (s : List ℕ) (items : List Item) → ArePlaced (unix s) items
    → ArePlaced s (map (λ (i : Item). (moved s i.0, i.1)) items)
placed-moved s [] are = All-nil (IsPlaced s)
placed-moved s (i ∷ items) are =
    let one : IsPlaced (unix s) i = All-head (IsPlaced (unix s)) i items are in
    All-cons (IsPlaced s) (moved s i.0, i.1) (map (λ (i : Item). (moved s i.0, i.1)) items)
    (record {
      not_empty = place_less s i.0.start i.0.end one.not_empty;
      start = place-boundary s i.0.start one.start;
      end = place-boundary s i.0.end one.end;
    })
    (placed-moved s items (All-tail (IsPlaced (unix s)) i items are))

pub items_placed : (raw : Bool) (s : List ℕ) → IsUtf8 s → ArePlaced s (file_items raw s)
items_placed raw s is = placed-moved s (items_of raw (unix s)) (are_placed (unix s) (utf8-unix s is) raw)

-- ---- stretches

same-order : (s : List ℕ) (begin i j : ℕ) → nat_lt (begin + place s i) (begin + place s j) ≡ nat_lt i j
same-order s begin i j = grind (arith, common_steps, nat_tests, place_less s i j, place-le s j i)

stretch-moved : (begin : ℕ) (s : List ℕ) (start end : ℕ) (look : Option Look)
    → stretch (begin + place s start) (begin + place s end) look ≡ map (moved_stretch begin s) (stretch start end look)
stretch-moved begin s start end look = grind (arith, common_steps)

pub stretches-moved : (mode : Mode) (begin : ℕ) (s : List ℕ) (at close : ℕ) (items : List Item)
    → stretches_from mode begin (begin + place s at) (begin + place s close)
    (map (λ (i : Item). (moved s i.0, i.1)) items) ≡
    map (moved_stretch begin s) (stretches_from mode 0 at close items)
stretches-moved mode begin s at close [] = grind (arith, common_steps, same-order s begin at close)
stretches-moved mode begin s at close (i ∷ items) =
    grind (
      arith,
      common_steps,
      map-append,
      stretch-moved,
      same-order s begin i.0.start at,
      same-order s begin at i.0.start,
      stretches-moved mode begin s at close items,
      stretches-moved mode begin s i.0.end close items,
    )
