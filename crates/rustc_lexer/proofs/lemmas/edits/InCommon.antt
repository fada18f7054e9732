-- The common prefix and suffix of two texts, and the edit between them.
use Rattle.std.proofs.lemmas.Grind.{common_steps}
use Rattle.std.proofs.Common.{◌≡◌, ◌↔◌, Bool, false, IsTrue, ℕ, ◌+◌, ◌-◌, ◌^◌, ◌<◌, ◌≤◌, ◌++◌, List, length, take, drop}
use Rattle.std.proofs.Common.{slice_range, refl, ap, subst, arith, drop-drop, take-take, take_at}
use Rattle.std.proofs.Common.{drop_at, length-append, length-drop, length-take, length-take-le, IsUtf8, IsCharBoundary}
use Rattle.std.proofs.lemmas.{List.{drop-take, Folds.{drop_split}}, Slice.Eq.{bytes_eq-Decides}}
use Rattle.std.proofs.{lemmas.Str.{IsCharBoundary-from_take, IsCharBoundary-start, IsUtf8-take}, Math.Seq.{take-add}}
use Rattle.rustc_lexer.specs.{Edits.{IsNarrowest, Makes, apply}, model.Relexer.{IsCommonSuffix, IsCommonPrefix}}
use Rattle.rustc_lexer.proofs.lemmas.edits.FrontAndBack.{three_parts}

-- ---- the common prefix

-- A common prefix, followed by a slice that is equal in both texts, is a common prefix.
pub front_more : (old new : List ℕ) (at to : ℕ) → IsCommonPrefix old new at → at ≤ to → to ≤ length old
    → to ≤ length new → slice_range old at to ≡ slice_range new at to → IsCommonPrefix old new to
front_more old new at to is less in_old in_new same =
    let there : at + (to - at) ≡ to = omega arith in
    let part = take-add at (to - at) in
    record { in_old = in_old; in_new = in_new; same = cc (part old, part new, is.same) }

pub front_less : (old new : List ℕ) (at n : ℕ) → IsCommonPrefix old new at → n ≤ at → IsCommonPrefix old new n
front_less old new at n is less = record {
  in_old = omega arith;
  in_new = omega arith;
  same = cc (take-take n at old less, is.same, take-take n at new less);
}

-- Every slice of a common prefix is equal in both texts.
pub front_slice : (old new : List ℕ) (at to n : ℕ) → IsCommonPrefix old new n → at ≤ to → to ≤ n
    → slice_range old at to ≡ slice_range new at to
front_slice old new at to n is less in_front =
    let there : at + (to - at) ≡ to = omega arith in
    cc (drop-take at (to - at) old, (front_less old new n to is in_front).same, drop-take at (to - at) new)

-- A char boundary of one text within the common prefix is a char boundary of both.
pub front_boundary : (old new : List ℕ) (n : ℕ) → IsUtf8 old → IsUtf8 new → IsCommonPrefix old new n
    → IsCharBoundary old n → IsCharBoundary new n
front_boundary old new n old_is new_is is at =
    grind (
      arith,
      common_steps,
      IsCharBoundary-from_take new n new_is is.in_new
          (subst IsUtf8 is.same (IsUtf8-take old n old_is at)),
    )

pub some_front : {text : List ℕ} {n : ℕ} {r : Bool} → IsUtf8 text → (IsTrue r ↔ IsCharBoundary text n)
    → r ≡ false → 0 < n
some_front {text} {n} {r} is test cut = grind (arith, test, IsCharBoundary-start text is)

-- The longest common prefix that ends on a char boundary is shorter than one that ends inside a character; the same
-- holds for a suffix.
pub shorter : {at n : ℕ} {r : Bool} (P : ℕ → Type 0) → (IsTrue r ↔ P at) → r ≡ false → P n → n ≤ at → n + 1 ≤ at
shorter P test cut is less = grind (arith, test)

-- ---- the common suffix

pub back_more : (old new : List ℕ) (start at to : ℕ) → IsCommonSuffix old new start at → at ≤ to
    → start + to ≤ length old → start + to ≤ length new
    → slice_range old (length old - to) (length old - at) ≡ slice_range new (length new - to) (length new - at)
    → IsCommonSuffix old new start to
back_more old new start at to is less in_old in_new same =
    let parts = λ (xs : List ℕ). drop_split xs (length xs - to) (length xs - at) (omega arith) in
    record { in_old = in_old; in_new = in_new; same = cc (parts old, is.same, parts new) }

pub back_less : (old new : List ℕ) (start at n : ℕ) → IsCommonSuffix old new start at → n ≤ at
    → IsCommonSuffix old new start n
back_less old new start at n is less =
    let part : (xs : List ℕ) → start + at ≤ length xs
    → drop (at - n) (drop (length xs - at) xs) ≡ drop (length xs - n) xs =
    λ xs fits. let there : length xs - at + (at - n) ≡ length xs - n = omega arith in
    rw there at (drop-drop (at - n) (length xs - at) xs) in
    record {
      in_old = omega arith;
      in_new = omega arith;
      same = cc (part old is.in_old, is.same, part new is.in_new);
    }

-- No common suffix extends over a slice that differs.
pub back_differs : (old new : List ℕ) (start at to n : ℕ) → IsCommonSuffix old new start n → at ≤ to
    → (slice_range old (length old - to) (length old - at)
    ≡ slice_range new (length new - to) (length new - at) → ⊥)
    → n < to
back_differs old new start at to n is less differ =
    let same : to ≤ n → slice_range old (length old - to) (length old - at)
    ≡ slice_range new (length new - to) (length new - at) =
    λ in_back. let whole = back_less old new start n to is in_back in
    let there : length old - at - (length old - to) ≡ length new - at - (length new - to) = omega arith in cc in
    grind (arith, differ, same)

-- ---- the edit between prefix and suffix

-- Each edit that turns the old text into the new one leaves a common prefix and a common suffix.
pub front_left : {old new : List ℕ} {start stop : ℕ} {insert : List ℕ} → Makes old new start stop insert
    → IsCommonPrefix old new start
unfolding apply
front_left is = grind (arith, common_steps, length-take-le, take_at, length-take)

pub back_left : {old new : List ℕ} {start stop : ℕ} {insert : List ℕ} → Makes old new start stop insert
    → IsCommonSuffix old new start (length old - stop)
unfolding apply
back_left {old} {new} {start} {stop} {insert} is =
    let inside = is.valid.inside in
    let first : length (take start old) ≡ start = length-take-le start old (omega arith) in
    let long = simp (length-append, length-drop) at (ap length is.made) in
    let stop_is : length old - (length old - stop) ≡ stop = omega arith in
    let end : length new - (length old - stop) ≡ start + length insert = omega arith in
    record {
      in_old = omega arith;
      in_new = omega arith;
      same = cc (
        is.made,
        drop-drop (length insert) start new,
        drop_at (take start old) (insert ++ drop stop old) start first,
        drop_at insert (drop stop old) (length insert) refl,
      );
    }

pub narrowest : {old new insert : List ℕ} {start back : ℕ} → length new < 2 ^ 32
    → IsCommonPrefix old new start → IsCharBoundary old start
    → ((n : ℕ) → IsCommonPrefix old new n → IsCharBoundary old n → n ≤ start)
    → IsCommonSuffix old new start back → IsCharBoundary old (length old - back)
    → ((n : ℕ) → IsCommonSuffix old new start n → IsCharBoundary old (length old - n) → n ≤ back)
    → insert ≡ slice_range new start (length new - back)
    → IsNarrowest old new start (length old - back) insert
unfolding apply
narrowest {old} {new} {insert} {start} {back} fits front front_cut longest_front behind back_cut longest_back
    insert_is =
    let long = length-take-le (length new - back - start) (drop start new) (omega (arith, length-drop start new)) in
    record {
      makes = record {
        valid = record {
          inside = record {
            start_le_stop = omega arith;
            stop_inside = omega arith;
            start_boundary = front_cut;
            stop_boundary = back_cut;
          };
          short = omega (arith, ap length insert_is);
        };
        made = cc (front.same, behind.same, three_parts new start (length new - back) (omega arith));
      };
      begins_last = λ from to other makes. longest_front from (front_left makes) makes.valid.inside.start_boundary;
      ends_first = λ to other makes.
          let turned : length old - (length old - to) ≡ to = omega (arith, makes.valid.inside.stop_inside) in
          omega (arith, longest_back _ (back_left makes) (rw turned makes.valid.inside.stop_boundary));
    }

pub ruleset front_lemmas = (front_more, front_less, front_slice, front_boundary, bytes_eq-Decides)
