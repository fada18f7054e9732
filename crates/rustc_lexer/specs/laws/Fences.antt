-- Searches for the closing fence of a frontmatter.
use Rattle.std.proofs.Common.{◌≡◌, ℕ, zero, suc, ◌+◌, ◌-◌, ◌<◌, ◌≤◌, ◌==◌, ◌&&◌, nat_lt, Bool, true, false, true≢false}
use Rattle.std.proofs.Common.{if◌then◌else◌, List, [], ◌∷◌, ◌++◌, length, take, drop, get_or, refl, sym, ap, ◌∙◌, subst}
use Rattle.std.proofs.Common.{arith, Option, Some, None, length-drop, drop-drop, inl, inr}
use Rattle.std.proofs.{Math.Seq.{take-suc}, lemmas.{Bool.{eqb-true, and_parts, lt-ltb, cases_lt}, List.{get_or-drop}}}
use Rattle.std.proofs.lemmas.Grind.{common_steps}
use Rattle.rustc_lexer.specs.Classes.{is_horizontal_whitespace, is_inline}
use Rattle.memchr.specs.Find.{IsFirstByte, is_byte}
use Rattle.rustc_lexer.specs.FrontmatterGrammar.{fence}
use Rattle.rustc_lexer.specs.model.Frontmatter.{first, blank_past, blank_over, first_lone, is_dash, is_newline}
use Rattle.rustc_lexer.specs.model.Frontmatter.{line_end}
use Rattle.rustc_lexer.specs.model.Least.{more, one_more}
use Rattle.rustc_lexer.specs.model.Raw.{least_offset}
use Rattle.rustc_lexer.specs.model.Scan.{begins, run_len}
use Rattle.rustc_lexer.specs.laws.Choice.{by_either}
use Rattle.rustc_lexer.specs.laws.Least.{more-more, more-zero, one_more-more, offset-here, offset-on, one_more-none}
use Rattle.rustc_lexer.specs.laws.Reach.{one_more-some}

pub begins-whole : (pattern text : List ℕ) → begins pattern text ≡ true → text ≡ pattern ++ drop (length pattern) text
begins-whole [] text e = refl
begins-whole (c ∷ cs) [] e = absurd (true≢false (sym e))
begins-whole (c ∷ cs) (d ∷ text) e =
    grind (arith, common_steps, and_parts, eqb-true, begins-whole cs text (and_parts (d == c) (begins cs text) e).1)

-- If a search finds no newline, the line extends to the end.
run-none : (s : List ℕ) → ((k : ℕ) → k < length s → is_newline (get_or s k 0) ≡ true → ⊥)
    → run_len is_inline s ≡ length s
run-none [] none = refl
run-none (c ∷ s) none =
    by_either (is_newline c) (λ e. absurd (none 0 (omega arith) e))
    (λ e. rw e (ap suc (run-none s (λ k l f. none (suc k) (omega arith) f))))

run-some : (s : List ℕ) (k : ℕ) → k < length s → is_newline (get_or s k 0) ≡ true
    → ((j : ℕ) → j < k → is_newline (get_or s j 0) ≡ true → ⊥) → run_len is_inline s ≡ k
run-some [] k l e none = absurd (omega arith)
run-some (c ∷ s) zero l e none = rw e refl
run-some (c ∷ s) (suc k) l e none =
    by_either (is_newline c) (λ f. absurd (none 0 (omega arith) f))
    (λ f. rw f (ap suc (run-some s k (omega arith) e (λ j m g. none (suc j) (omega arith) g))))

pub line-some : (s : List ℕ) (k : ℕ) → IsFirstByte (is_byte 10) s (Some k) → run_len is_inline s ≡ k
line-some s k at = run-some s k at.0.high at.1 (λ j l e. at.0.before j (omega arith) l e)

-- The same holds from an offset on.
pub line_end-none : (rest cut : List ℕ) (offset : ℕ) → offset ≤ length rest → cut ≡ drop offset rest
    → IsFirstByte (is_byte 10) cut None → length rest ≡ line_end offset rest
line_end-none rest cut offset inside e none = grind (arith, common_steps, run-none, length-drop)

pub line_end-some : (rest cut : List ℕ) (offset step : ℕ) → cut ≡ drop offset rest
    → IsFirstByte (is_byte 10) cut (Some step) → offset + step ≡ line_end offset rest
line_end-some rest cut offset step e at = ap (λ n. offset + n) (sym (line-some cut step at) ∙ ap (run_len is_inline) e)

-- A search can skip positions at which no match starts.
module _ (p : ℕ → Bool) (test : List ℕ → Bool) (fails : (c : ℕ) (s : List ℕ) → p c ≡ true → test (c ∷ s) ≡ false) where
  pub skip_run : (s : List ℕ) → least_offset test s ≡ more (run_len p s) (least_offset test (drop (run_len p s) s))
  skip_run [] = refl
  skip_run (c ∷ s) = grind (arith, common_steps, offset-on, one_more-more, more-zero, skip_run s)

-- A text with at least n dashes in front starts with a fence of n dashes.
pub begins-enough : (n : ℕ) (s : List ℕ) → n ≤ run_len is_dash s → begins (fence n) s ≡ true
begins-enough zero s le = refl
begins-enough (suc n) [] le = absurd (omega arith)
begins-enough (suc n) (c ∷ s) le = by_either (is_dash c)
    (λ e. let more : run_len is_dash (c ∷ s) ≡ suc (run_len is_dash s) = rw e refl in
    rw (e, begins-enough n s (omega arith)) refl)
    (λ e. let none : run_len is_dash (c ∷ s) ≡ 0 = rw e refl in absurd (omega arith))

pub begins-few : (n : ℕ) (s : List ℕ) → run_len is_dash s < n → begins (fence n) s ≡ false
begins-few zero s less = absurd (omega arith)
begins-few (suc n) [] less = refl
begins-few (suc n) (c ∷ s) less = by_either (is_dash c)
    (λ e. let more : run_len is_dash (c ∷ s) ≡ suc (run_len is_dash s) = rw e refl in
    rw (e, begins-few n s (omega arith)) refl)
    (λ e. rw e refl)

pub begins-dashes : (n : ℕ) (s : List ℕ) → begins (fence n) s ≡ true → n ≤ run_len is_dash s
begins-dashes n s e =
    elim (cases_lt (run_len is_dash s) n) [
      | inl few ↦ absurd (true≢false (sym e ∙ begins-few n s few))
      | inr enough ↦
          enough
    ]

-- ---- the search for lone dashes

-- The last character of a line, together with the characters before it, decides whether the line is blank.
blank-last : (blank : Bool) (w : List ℕ) (c : ℕ) → blank_over blank (w ++ c ∷ []) ≡ blank_past (blank_over blank w) c
blank-last blank [] c = refl
blank-last blank (d ∷ w) c = blank-last (blank_past blank d) w c

-- Whether the line is blank up to `start`, by the byte before `start`.
module _ (end start : ℕ) (rest : List ℕ) (past_end : end < start) (inside : start ≤ length rest) where
  blank-back : blank_over true (take (start - end) (drop end rest)) ≡
      blank_past (blank_over true (take (start - 1 - end) (drop end rest))) (get_or rest (start - 1) 0)
  blank-back =
      let n : ℕ = start - 1 - end in
      let more : start - end ≡ suc (start - 1 - end) = omega arith in
      let there : get_or (drop end rest) (start - 1 - end) 0 ≡ get_or rest (start - 1) 0 =
      get_or-drop end rest (start - 1 - end) 0
      ∙ ap (λ (k : ℕ). get_or rest k 0) (let same : end + (start - 1 - end) ≡ start - 1 = omega arith in same) in
      ap (λ (k : ℕ). blank_over true (take k (drop end rest))) more
      ∙ (ap (blank_over true) (take-suc (drop end rest) (start - 1 - end) 0 (omega (arith, length-drop end rest)))
      ∙ (blank-last true (take (start - 1 - end) (drop end rest)) (get_or (drop end rest) (start - 1 - end) 0)
      ∙ ap (blank_past (blank_over true (take (start - 1 - end) (drop end rest)))) there))

  pub blank_on : is_horizontal_whitespace (get_or rest (start - 1) 0) ≡ true
      → blank_over true (take (start - end) (drop end rest)) ≡ blank_over true (take (start - 1 - end) (drop end rest))
  blank_on e = grind (arith, common_steps, blank-back, eqb-true)

  pub blank_end : is_horizontal_whitespace (get_or rest (start - 1) 0) ≡ false
      → (nat_lt 0 start && is_newline (get_or rest (start - 1) 0)) ≡
      blank_over true (take (start - end) (drop end rest))
  blank_end e = rw (lt-ltb 0 start (omega arith))
      (sym (blank-back ∙ by_either (is_newline (get_or rest (start - 1) 0)) (λ f. rw f refl) (λ f. rw (f, e) refl)))

pub lone-none : (blank : Bool) (s : List ℕ) → first (fence 3) s ≡ None → first_lone blank 0 s ≡ None
lone-none blank [] e = refl
lone-none blank (c ∷ s) e = by_either (begins (fence 3) (c ∷ s))
    (λ t. absurd (let no : None ≡ Some 0 = sym e ∙ offset-here (begins (fence 3)) c s t in cc))
    (λ t. rw t (ap one_more
    (lone-none (blank_past blank c) s
    (one_more-none (first (fence 3) s) (sym (offset-on (begins (fence 3)) c s t) ∙ e)))))

-- A search for lone dashes goes from one group of three dashes to the next.
pub lone-three : (blank : Bool) (k : ℕ) (s : List ℕ) → first (fence 3) s ≡ Some k
    → first_lone blank 0 s ≡
    (if blank_over blank (take k s) then Some k else more (k + 3) (first_lone true 0 (drop (k + 3) s)))
lone-three blank k [] e = absurd (let no : None ≡ Some k = e in cc)
lone-three blank k (c ∷ s) e = by_either (begins (fence 3) (c ∷ s))
    (λ t.
    let some : Some 0 ≡ Some k = sym (offset-here (begins (fence 3)) c s t) ∙ e in
    let none : 0 ≡ k = cc in
    subst (λ (n : ℕ). first_lone blank 0 (c ∷ s) ≡
    (if blank_over blank (take n (c ∷ s)) then Some n else more (n + 3) (first_lone true 0 (drop (n + 3) (c ∷ s)))))
    none
    (ap (first_lone blank 0) (begins-whole (fence 3) (c ∷ s) t)
    ∙ by_either blank (λ b. rw b refl) (λ b. rw b (three (first_lone true 0 (drop 2 s))))))
    (λ t. let m = one_more-some (first (fence 3) s) k (sym (offset-on (begins (fence 3)) c s t) ∙ e) in
    on m.0 m.2 t (lone-three (blank_past blank c) m.0 s m.1))
  where
    three : (o : Option ℕ) → one_more (one_more (one_more o)) ≡ more 3 o
    three None = refl
    three (Some n) = ap Some (omega arith)

    on : (m : ℕ) → k ≡ suc m → begins (fence 3) (c ∷ s) ≡ false
        → first_lone (blank_past blank c) 0 s ≡
        (if blank_over (blank_past blank c) (take m s) then Some m else more (m + 3)
        (first_lone true 0 (drop (m + 3) s)))
        → first_lone blank 0 (c ∷ s) ≡
        (if blank_over blank (take k (c ∷ s)) then Some k else more (k + 3)
        (first_lone true 0 (drop (k + 3) (c ∷ s))))
    on m same t ih =
        let far : suc (m + 3) ≡ k + 3 = omega (arith, same) in
        let past : Option ℕ = more (k + 3) (first_lone true 0 (drop (k + 3) (c ∷ s))) in
        rw t (ap one_more ih
        ∙ (by_either (blank_over (blank_past blank c) (take m s)) (λ b. rw b refl)
        (λ b. rw b (one_more-more (m + 3) (first_lone true 0 (drop (m + 3) s))
        ∙ ap (λ (n : ℕ). more n (first_lone true 0 (drop n (c ∷ s)))) far))
        ∙ ap (λ (n : ℕ). if blank_over blank (take n (c ∷ s)) then Some n else more (k + 3)
        (first_lone true 0 (drop (k + 3) (c ∷ s)))) (sym same)))

-- Holds at the start of each iteration: the loop is at offset `end`, and there are no lone dashes before.
pub record IsWalking (rest : List ℕ) (end : ℕ) : Type 0 where
  pub inside : end ≤ length rest
  pub left : first_lone true 0 rest ≡ more end (first_lone true 0 (drop end rest))

module _ (rest cut : List ℕ) (end : ℕ) (at : IsWalking rest end) (e : cut ≡ drop end rest) where
  pub walk_end : None ≡ first (fence 3) cut → None ≡ first_lone true 0 rest
  walk_end none = sym (at.left ∙ ap (more end) (ap (first_lone true 0) (sym e) ∙ lone-none true cut (sym none)))

  module _ (step : ℕ) (found : Some step ≡ first (fence 3) cut) where
    here : first_lone true 0 rest ≡
        more end (if blank_over true (take step (drop end rest)) then Some step else more (step + 3)
        (first_lone true 0 (drop (step + 3) (drop end rest))))
    here = at.left ∙ ap (more end) (lone-three true step (drop end rest) (ap (first (fence 3)) (sym e) ∙ sym found))

    pub walk_found : blank_over true (take step (drop end rest)) ≡ true → Some (end + step) ≡ first_lone true 0 rest
    walk_found alone = sym (here ∙ rw alone refl)

    pub walk_on : blank_over true (take step (drop end rest)) ≡ false → end + step + 3 ≤ length rest
        → IsWalking rest (end + step + 3)
    walk_on crowded inside = grind (arith, common_steps, here, more-more, drop-drop)
