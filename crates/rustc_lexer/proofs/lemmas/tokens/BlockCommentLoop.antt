-- The loop over a block comment, from one star or slash to the next.
use Rattle.std.proofs.Common.{◌≡◌, ◌≢◌, ℕ, suc, ◌+◌, ◌<◌, ◌==◌, Bool, true, false, List, [], ◌∷◌, ◌++◌, length, drop}
use Rattle.std.proofs.Common.{refl, ap, ◌∙◌, arith, length-append, Option, Some, None, not}
use Rattle.std.specs.Str.{chars, IsUtf8}
use Rattle.std.proofs.lemmas.{Bool.{and_parts, or_cases, or_parts, eqb-true, not-true, not-false}, Grind.{common_steps}}
use Rattle.rustc_lexer.specs.{DocStyle, TokenKind, BlockComment, model.Least.{more}}
use Rattle.rustc_lexer.specs.model.BlockComment.{at_closing, at_opening, block_doc_style, comment_end, block_comment}
use Rattle.rustc_lexer.specs.model.BlockComment.{block_comment_to, out_of}
use Rattle.rustc_lexer.specs.model.Scan.{begins, or_all, or_all_at, past, run_len, scanned}
use Rattle.rustc_lexer.specs.laws.BlockComment.{out_of-plain}
use Rattle.rustc_lexer.specs.laws.{Past.{past-zero, past-past, past-two, chars-past, IsUtf8-cut}, Choice.{by_either}}
use Rattle.rustc_lexer.proofs.lemmas.tokens.QuotedLoop.{run_fails}
use Rattle.memchr.specs.Find.{is_byte2}

-- Returns the result for a text with a known end of the comment, and the text after it.
abbrev pub leaves : Option ℕ → List ℕ → List ℕ → Bool × List ℕ
leaves o cs text = ((or_all_at o cs).0, past (or_all_at o cs).1 text)

-- Holds if the rest of the text, at this depth, gives the same result as the whole text.
pub record Commenting (text rest : List ℕ) (depth : ℕ) : Type 0 where
  pub utf8 : IsUtf8 rest
  pub same : leaves (out_of depth (chars rest)) (chars rest) rest ≡ scanned (or_all comment_end) text

pub start : (text : List ℕ) → IsUtf8 text → Commenting text text 1
start text is = record { utf8 = is; same = refl }

out_of-nil : (depth : ℕ) → 0 < depth → out_of depth [] ≡ None
unfolding out_of
out_of-nil depth w1 = grind (arith, common_steps)

out_of-opening : (depth : ℕ) (s : List ℕ) → 0 < depth → out_of depth (47 ∷ 42 ∷ s) ≡ more 2 (out_of (suc depth) s)
unfolding out_of
out_of-opening depth s w2 = grind (arith, common_steps)

-- Characters that change the depth from `depth` to `to` can be skipped.
step : (text rest tail w : List ℕ) (depth to n : ℕ) → Commenting text rest depth → chars rest ≡ w ++ chars tail
    → length w ≡ n → tail ≡ past n rest → out_of depth (w ++ chars tail) ≡ more n (out_of to (chars tail))
    → Commenting text tail to
step text rest tail w depth to n at reads len cut e = record {
  utf8 = IsUtf8-cut n rest tail at.utf8 cut;
  same = rw (moved (out_of to (chars tail)), ← e, ← reads) at.same;
}
  where
    further : (m : ℕ) → past m tail ≡ past (n + m) rest
    further m = rw cut (past-past m n rest at.utf8)

    moved : (o : Option ℕ) → leaves o (chars tail) tail ≡ leaves (more n o) (w ++ chars tail) rest
    moved None =
        let sum : n + length (chars tail) ≡ length (w ++ chars tail) =
        omega (arith, length-append w (chars tail), len) in
        rw (further, sum) refl
    moved (Some m) = rw (further m) refl

-- Whether a character is neither a star nor a slash.
abbrev pub is_other : ℕ → Bool
is_other c = not (is_byte2 42 47 c)

-- All characters up to the next star or slash can be skipped.
run_on : (text rest : List ℕ) (depth : ℕ) (cs : List ℕ) → 0 < depth → chars rest ≡ cs → Commenting text rest depth
    → Commenting text (past (run_len is_other cs) rest) depth
run_on text rest depth [] some reads at = rw (past-zero rest at.utf8) at
run_on text rest depth (c ∷ cs) some reads at = by_either (is_other c)
    (λ e.
    let left : chars (past 1 rest) ≡ cs = rw reads at (chars-past 1 rest at.utf8) in
    let here : chars rest ≡ c ∷ chars (past 1 rest) = cc in
    let p = or_parts (c == 42) (c == 47) (not-true _ e) in
    let next : Commenting text (past 1 rest) depth =
    step text rest (past 1 rest) (c ∷ []) depth depth 1 at here refl refl
    (out_of-plain depth c (chars (past 1 rest)) some (rw p.0 refl) (rw p.1 refl)) in
    let longer : 1 + run_len is_other cs ≡ run_len is_other (c ∷ cs) = rw e (omega arith) in
    rw (← longer, ← past-past (run_len is_other cs) 1 rest at.utf8) (run_on text (past 1 rest) depth cs some left next))
    (λ e.
    let none : run_len is_other (c ∷ cs) ≡ 0 = rw e refl in
    rw (none, past-zero rest at.utf8) at)

-- The loop at a star or a slash.
module _ (text rest stop : List ℕ) (depth : ℕ) (some : 0 < depth) (at : Commenting text rest depth)
    (there : stop ≡ past (run_len is_other (chars rest)) rest) where
  pub at_stop : Commenting text stop depth
  at_stop = rw there (run_on text rest depth (chars rest) some refl at)

  pub open_at_end : chars stop ≡ [] → (false, stop) ≡ scanned (or_all comment_end) text
  open_at_end none = grind (arith, common_steps, past-zero, out_of-nil, at_stop)

  module _ (tail : List ℕ) (c : ℕ) (reads : chars stop ≡ c ∷ chars tail) (cut : tail ≡ past 1 stop) where
    is_slash : c ≢ 42 → c ≡ 47
    is_slash ne = grind (arith, common_steps, or_cases, not-false, run_fails, eqb-true)

    alone : at_closing (c ∷ chars tail) ≡ false → at_opening (c ∷ chars tail) ≡ false → Commenting text tail depth
    alone e f = step text stop tail (c ∷ []) depth depth 1 at_stop reads refl cut
        (out_of-plain depth c (chars tail) some e f)

    pub star_alone : c ≡ 42 → begins (47 ∷ []) (chars tail) ≡ false → Commenting text tail depth
    star_alone e none = alone (rw e none) (rw e refl)

    pub slash_alone : c ≢ 42 → begins (42 ∷ []) (chars tail) ≡ false → Commenting text tail depth
    slash_alone ne none = let e = is_slash ne in alone (rw e refl) (rw e none)

    begins-one : (a : ℕ) (s : List ℕ) → begins (a ∷ []) s ≡ true → s ≡ a ∷ drop 1 s
    begins-one a s w2 = grind (arith, common_steps, eqb-true, and_parts)

    -- The text at the stop starts with both characters of `*/` or `/*`.
    pair_reads : (a b : ℕ) (past_pair : List ℕ) → c ≡ a → begins (b ∷ []) (chars tail) ≡ true → past_pair ≡ past 1 tail
        → chars stop ≡ a ∷ b ∷ chars past_pair
    pair_reads a b past_pair e f g =
        grind (
          arith,
          common_steps,
          g,
          chars-past 1 tail (IsUtf8-cut 1 stop tail (at_stop).utf8 cut),
          reads,
          e,
          begins-one b (chars tail) f,
        )

    past_both : (past_pair : List ℕ) → past_pair ≡ past 1 tail → past_pair ≡ past 2 stop
    past_both past_pair g = let stopped = at_stop in past-two stop tail past_pair stopped.utf8 cut g

    pub closed_one : (past_pair : List ℕ) (less : ℕ) → c ≡ 42 → begins (47 ∷ []) (chars tail) ≡ true
        → past_pair ≡ past 1 tail → suc less ≡ depth → Commenting text past_pair less
    unfolding out_of
    closed_one past_pair less e f g h =
        step text stop past_pair (42 ∷ 47 ∷ []) depth less 2 at_stop (pair_reads 42 47 past_pair e f g) refl
        (past_both past_pair g) (rw (← h) refl)

    pub opened_one : (past_pair : List ℕ) (deeper : ℕ) → c ≢ 42 → begins (42 ∷ []) (chars tail) ≡ true
        → past_pair ≡ past 1 tail → deeper ≡ suc depth → Commenting text past_pair deeper
    opened_one past_pair deeper ne f g h =
        step text stop past_pair (47 ∷ 42 ∷ []) depth deeper 2 at_stop (pair_reads 47 42 past_pair (is_slash ne) f g)
        refl (past_both past_pair g)
        (rw h (out_of-opening depth (chars past_pair) some))

pub closed : (text rest : List ℕ) (depth : ℕ) → Commenting text rest depth → depth ≡ 0
    → (true, rest) ≡ scanned (or_all comment_end) text
unfolding out_of
closed text rest depth at none = rw (none, past-zero rest at.utf8) at at.same

-- The style and the end determine the comment.
pub comment : (text rest : List ℕ) (style : Option DocStyle) (terminated : Bool) → style ≡ block_doc_style (chars text)
    → (terminated, rest) ≡ scanned (or_all comment_end) text
    → (BlockComment style terminated, rest) ≡ scanned block_comment text
comment text rest style terminated e f =
    rw e (ap (λ (r : Bool × List ℕ). (BlockComment (block_doc_style (chars text)) r.0, r.1)) f
    ∙ by_end (comment_end (chars text)))
  where
    by_end : (o : Option ℕ)
        → ◌≡◌ {A = TokenKind × List ℕ} (
          BlockComment (block_doc_style (chars text)) (or_all_at o (chars text)).0,
          past (or_all_at o (chars text)).1 text,
        )
        ((block_comment_to o (chars text)).0, past (block_comment_to o (chars text)).1 text)
    by_end None = refl
    by_end (Some n) = refl
