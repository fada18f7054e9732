-- A binary search in sorted ranges decides whether a character is in one of them.
use Rattle.std.proofs.Common.{◌≡◌, ℕ, zero, suc, ◌+◌, ◌<◌, ◌≤◌, Bool, true, false, ◌&&◌, not, nat_le, nat_lt, List, []}
use Rattle.std.proofs.Common.{◌∷◌, length, refl, sym, ap, ◌∙◌, arith, Result, Ok, Err, is_ok, slice_index_or}
use Rattle.std.proofs.Math.Bool.{and-false, or-true}
use Rattle.std.proofs.lemmas.Bool.{and_parts, le-leb, lt-leb, leb-true, lt-ltb, le-ltb, ltb-true, ltb-false}
use Rattle.std.proofs.lemmas.List.Sorted.{IsNonDecreasingBy-from_all_adjacent}
use Rattle.std.specs.{List.Sorted.{IsBinarySearchResult, IsPartitionPoint, IsSearchInRange}, Ordering.{ordering_index}}
use Rattle.std.specs.declared.cmp.Ordering.{Ordering, TheVariants.{Less, Equal, Greater}}
use Rattle.std.proofs.lemmas.Grind.{common_steps}
use Rattle.rustc_lexer.specs.{Tables.{emoji_ranges, is_emoji}, model.Emoji.{Range, is_within, in_ranges, side}}
use Rattle.rustc_lexer.specs.laws.Choice.{by_either}

-- Whether the ranges are sorted: each is not empty and starts after the end of the previous one, and the first starts
-- at or after n.
abbrev rises_from : ℕ → List Range → Bool
rises_from n [] = true
rises_from n (r ∷ rs) = nat_le n r.0 && (nat_le r.0 r.1 && rises_from (r.1 + 1) rs)

is_equal : Ordering → Bool
is_equal Less = false
is_equal Equal = true
is_equal Greater = false

abbrev index : ℕ → Range → ℕ
index c r = ordering_index (side c r)

-- A character is in a range exactly if it is neither before nor after it.
within : (c : ℕ) (r : Range) → is_within r c ≡ is_equal (side c r)
unfolding is_equal
within c r = grind (arith, common_steps, lt-leb, ltb-true, and-false, le-leb, ltb-false)

adjacent : (c n : ℕ) (rs : List Range) → rises_from n rs ≡ true → (k : ℕ) (d : Range) → k + 1 < length rs
    → index c (slice_index_or rs k d) ≤ index c (slice_index_or rs (k + 1) d)
adjacent c n [] up k d lt = absurd (omega arith)
adjacent c n (r ∷ []) up k d lt = absurd (omega arith)
adjacent c n (r ∷ s ∷ rs) up zero d lt = grind (arith, common_steps, and_parts, ltb-false, le-ltb, lt-ltb, leb-true)
adjacent c n (r ∷ s ∷ rs) up (suc k) d lt =
    let after = (and_parts (nat_le r.0 r.1) (rises_from (r.1 + 1) (s ∷ rs)) (and_parts (nat_le n r.0) _ up).1).1 in
    let e : suc k + 1 ≡ suc (k + 1) = omega arith in
    rw e (adjacent c (r.1 + 1) (s ∷ rs) after k d (omega arith))

in_at : (c : ℕ) (rs : List Range) (i : ℕ) → i < length rs → ((d : Range) → side c (slice_index_or rs i d) ≡ Equal)
    → in_ranges rs c ≡ true
unfolding is_equal
in_at c [] i lt h = absurd (omega arith)
in_at c (r ∷ rs) zero lt h = rw (within c r ∙ ap is_equal (h r)) refl
in_at c (r ∷ rs) (suc i) lt h = rw (in_at c rs i (omega arith) h) (or-true (is_within r c))

out_of_all : (c : ℕ) (rs : List Range)
    → ((k : ℕ) (d : Range) → k < length rs → is_equal (side c (slice_index_or rs k d)) ≡ false) → in_ranges rs c ≡ false
out_of_all c [] h = refl
out_of_all c (r ∷ rs) h = rw (within c r ∙ h 0 r (omega arith)) (out_of_all c rs (λ k d lt. h (suc k) d (omega arith)))

searched : (c : ℕ) (rs : List Range) (r : Result ℕ ℕ) → rises_from 0 rs ≡ true → IsSearchInRange r (length rs)
    → IsBinarySearchResult (side c) rs r → is_ok r ≡ in_ranges rs c
unfolding is_equal
searched c rs (Ok i) up bound found = sym (in_at c rs i bound found)
searched c rs (Err i) up bound found = sym (out_of_all c rs (λ k d lt. outside k d lt))
  where
    parts : IsPartitionPoint (λ y. side c y ≡ Less) (λ y. side c y ≡ Greater) rs i
    parts = found (IsNonDecreasingBy-from_all_adjacent (index c) rs (λ k d lt. adjacent c 0 rs up k d lt))

    outside : (k : ℕ) (d : Range) → k < length rs → is_equal (side c (slice_index_or rs k d)) ≡ false
    outside k d lt = by_either (nat_lt k i)
        (λ e. ap is_equal (parts.0 k d (omega arith) (ltb-true k i e)))
        (λ e. ap is_equal (parts.1 k d (ltb-false k i e) lt))

-- For a character outside ASCII, the search finds a range exactly if the character is an emoji.
pub past_ascii : (c : ℕ) (ascii : Bool) (r : Result ℕ ℕ) → ascii ≡ nat_lt c 128 → ascii ≡ false
    → IsSearchInRange r (length emoji_ranges) → IsBinarySearchResult (side c) emoji_ranges r → is_ok r ≡ is_emoji c
unfolding is_emoji emoji_ranges
past_ascii c ascii r e f bound found =
    rw (le-leb 128 c (ltb-false c 128 (sym e ∙ f))) (searched c emoji_ranges r refl bound found)

pub in_ascii : (c : ℕ) (ascii : Bool) → ascii ≡ nat_lt c 128 → ascii ≡ true → not ascii ≡ is_emoji c
unfolding is_emoji
in_ascii c ascii e f = rw (f, lt-leb 128 c (ltb-true c 128 (sym e ∙ f))) refl
