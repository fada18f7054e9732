-- Filling a buffer from a list, one item at a time.
use Rattle.std.proofs.Common.{◌≡◌, ℕ, ◌+◌, ◌<◌, ◌≤◌, List, [], ◌∷◌, ◌++◌, length, take, drop, min, sym, ap, ◌∙◌, arith}
use Rattle.std.proofs.Common.{slice_set, take-add}
use Rattle.std.proofs.lemmas.{Grind.{common_steps}, List.{drop-drop, length-drop, take-append-drop, take_more_set}}
use Rattle.std.proofs.Math.Nat.{min-eq_left, min-eq_right}

module _ {X : Type 0} (all left : List X) (count : ℕ) (x : X) (next : drop count all ≡ x ∷ left) where
  -- After one more item, the rest of the list is shorter by this item.
  pub left_step : left ≡ drop (count + 1) all
  left_step = ap (drop 1) (sym next) ∙ drop-drop 1 count all

  pub few_step : count + 1 ≤ length all
  few_step = omega (arith, length-drop count all, ap length next)

  -- After one more item, the buffer starts with one more item of the list.
  pub front_step : (buffer : List X) → count < length buffer → take count buffer ≡ take count all
      → take (count + 1) (slice_set buffer count x) ≡ take (count + 1) all
  front_step buffer fits front = take_more_set buffer count x fits
      ∙ (ap (λ l. l ++ x ∷ []) front ∙ sym (take-add count 1 all ∙ ap (λ l. take count all ++ take 1 l) next))

pub back_step : {Y : Type 0} (buffer old : List Y) (count : ℕ) (y : Y) → drop count buffer ≡ drop count old
    → drop (count + 1) (slice_set buffer count y) ≡ drop (count + 1) old
back_step buffer old count y back = grind (arith, common_steps)

-- At the end, the buffer has these items at the front, and the rest of it is unchanged.
pub buffer_filled : {Y : Type 0} (buffer old front : List Y) (count : ℕ) → take count buffer ≡ front
    → drop count buffer ≡ drop count old → buffer ≡ front ++ drop count old
buffer_filled buffer old front count is back = cc (take-append-drop count buffer)

-- If no item is left, all were written.
pub all_taken : {X : Type 0} (all : List X) (count : ℕ) → drop count all ≡ [] → length all ≤ count
all_taken all count none = omega (arith, length-drop count all, ap length none)

-- A count that equals one number and does not exceed another is the minimum of the two.
pub count_first : (count a b : ℕ) → count ≡ a → count ≤ b → count ≡ min a b
count_first count a b same few = let low : a ≤ b = omega arith in same ∙ sym (min-eq_left low)

pub count_second : (count a b : ℕ) → count ≤ a → count ≡ b → count ≡ min a b
count_second count a b few same = let low : b ≤ a = omega arith in same ∙ sym (min-eq_right low)
