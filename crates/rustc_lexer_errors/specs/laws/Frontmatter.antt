-- The error of a frontmatter follows from its first and its last line, and is the only one.
use Rattle.std.proofs.Common.{◌≡◌, ℕ, zero, suc, ◌+◌, ◌-◌, ◌<◌, ◌≤◌, ◌==◌, nat_eq, nat_lt, not, ◌&&◌, ◌||◌, Bool, true}
use Rattle.std.proofs.Common.{false, true≢false, if◌then◌else◌, List, [], ◌∷◌, ◌++◌, codes, length, take, drop, get_or}
use Rattle.std.proofs.Common.{refl, sym, ap, ◌∙◌, subst, arith, append_assoc, append-nil, drop-drop, length-append}
use Rattle.std.proofs.{Common.{take-append-drop, Option, Some, None, inl, inr}, Math.Seq.{drop-append_seam}}
use Rattle.std.proofs.{Math.Seq.{get_or-append_seam}, lemmas.Bool.{and_from, and_parts, cases_eq, eq-eqb, eqb-true}}
use Rattle.std.proofs.lemmas.Bool.{not_from_false, not_from_true}
use Rattle.std.proofs.lemmas.Bool.{false_from_ne_true, ltb-false, ltb-true, ne_eqb, or_parts, Decides.{nat_tests}}
use Rattle.std.proofs.lemmas.List.{nil_from_length, Elements.{All-from_get_or}, Folds.{list_all-append}}
use Rattle.std.proofs.lemmas.List.{Folds.{list_any-append, list_any_at, list_any_none}, Sums.{prefix_len_is, suffix_len_is}}
use Rattle.std.proofs.lemmas.Str.{char_from_byte, encode_ascii, encodes-append, encodes-chars, inside_one}
use Rattle.std.proofs.lemmas.{Str.{length-encode, length-le-encodes, len_utf8_bounds}, Grind.{common_steps}}
use Rattle.std.specs.{Char.{encode_utf8}, List.{after_last, list_all, list_any, prefix_len, suffix_len}, Option.{option_or}}
use Rattle.std.specs.Str.{byte, chars, encode_utf8_all, IsUtf8}
use Rattle.memchr.specs.Find.{IsLastByte, is_byte}
use Rattle.rustc_lexer.specs.Classes.{AreAll, Chars, NextIsNot, NextNotIn, begins, is_among, is_horizontal_whitespace}
use Rattle.rustc_lexer.specs.Classes.{is_id_start, is_info, is_inline, is_whitespace, next_is}
use Rattle.rustc_lexer.specs.FrontmatterGrammar.{IsBodyBefore, IsLabelBefore, IsOpeningBefore, endings, fence}
use Rattle.rustc_lexer.specs.laws.Choice.{by_either}
use Rattle.rustc_literal_escaper.specs.Grammar.{TheOnly}
use Rattle.rustc_lexer.specs.laws.{Choice.{by_test}, Fences.{begins-dashes, begins-enough}}
use Rattle.rustc_lexer.specs.laws.{LanguageFrontmatter.{fence-length, run-fence}, LanguageRuns.{among, other_than}}
use Rattle.rustc_lexer.specs.laws.LanguageRuns.{run-stops, run_len-here, start-word_start, word_start-no_space}
use Rattle.rustc_lexer.specs.{laws.Reach.{run_all}, model.{Frontmatter.{blanks_len, is_dash}, Scan.{run_len}}}
use Rattle.rustc_lexer.proofs.lemmas.tokens.ClassParts.{continue_part}
use Rattle.rustc_lexer_errors.specs.declared.errors.TokenError.{TokenError}
use Rattle.rustc_lexer_errors.specs.declared.errors.TokenError.TheVariants.{WhitespaceBeforeFrontmatter}
use Rattle.rustc_lexer_errors.specs.declared.errors.TokenError.TheVariants.{UnclosedFrontmatter}
use Rattle.rustc_lexer_errors.specs.declared.errors.TokenError.TheVariants.{WhitespaceBeforeFrontmatterClose}
use Rattle.rustc_lexer_errors.specs.declared.errors.TokenError.TheVariants.{FrontmatterCloseMismatch}
use Rattle.rustc_lexer_errors.specs.declared.errors.TokenError.TheVariants.{ExtraAfterFrontmatterClose}
use Rattle.rustc_lexer_errors.specs.Frontmatter.{EndsAfter, IsEndError, IsErrorOf, IsFrontmatterError, IsOpen}
use Rattle.rustc_lexer_errors.specs.Frontmatter.{NoLineBegins, Reading, closed, front_error, indented, is_end}
use Rattle.rustc_lexer_errors.specs.Frontmatter.{more_words, other_dashes, unclosed}
use Rattle.rustc_lexer_errors.specs.TextError.{dashes, frontmatter_error, is_of}
use Rattle.rustc_lexer_errors.specs.model.Frontmatter.{blanks, closing_error, end_error, error_in_front, has_crlf}
use Rattle.rustc_lexer_errors.specs.model.Frontmatter.{past_infostring, past_run}
use Rattle.rustc_literal_escaper.specs.Grammar.{is_newline}
use Rattle.rustc_lexer.specs.FrontmatterGrammar as the

-- ---- the last line of a text

-- The last line is the text after the last newline.
pub last-line : (text : List ℕ) (n : ℕ) → IsLastByte (is_byte (byte "\n")) text (Some n)
    → (list_any is_newline text ≡ true) × (after_last is_newline text ≡ drop (n + 1) text)
last-line text n last =
    let high = last.0.high in
    let back : n + 1 - 1 ≡ n = omega arith in
    let long = suffix_len_is (λ x. not (is_newline x)) text (n + 1) 0 (omega arith)
    (λ k low less. not_from_false _ (false_from_ne_true _ (last.0.after k low less)))
    (λ _. rw back (not_from_true _ last.1)) in
    let here : length text - suffix_len (λ x. not (is_newline x)) text ≡ n + 1 = omega arith in
    (list_any_at is_newline text n 0 high last.1, ap (λ (k : ℕ). drop k text) here)

-- ---- runs

-- Skipping a run character by character.
module _ (p : ℕ → Bool) (s t : List ℕ) (c : ℕ) (front : s ≡ c ∷ t) where
  pub skip_on : p c ≡ true → past_run p t ≡ past_run p s
  skip_on e = let one : 1 + prefix_len p t ≡ suc (prefix_len p t) = omega arith in rw (front, e, one) refl

  pub skip_ends : p c ≡ false → past_run p s ≡ s
  skip_ends e = rw (front, e) refl

past-here : (p : ℕ → Bool) (w next : Chars) → AreAll p w → NextIsNot p next → past_run p (w ++ next) ≡ next
past-here p [] [] all stop = refl
past-here p [] (c ∷ next) all stop = skip_ends p (c ∷ next) next c refl stop
past-here p (c ∷ w) next all stop =
    let parts = and_parts (p c) (list_all p w) all in
    sym (skip_on p (c ∷ w ++ next) (w ++ next) c refl parts.0) ∙ past-here p w next parts.1 stop

all-past : (p : ℕ → Bool) (u v : Chars) → AreAll p (u ++ v) → AreAll p v
all-past p u v all = (and_parts _ _ (sym (list_all-append p u v) ∙ all)).1

front-stops : (p : ℕ → Bool) (w next : Chars) → NextIsNot p (w ++ next) → NextIsNot p w
front-stops p w next w3 = grind (arith, common_steps)

is_of-is : (ds : List ℕ) (b : ℕ) → is_of ds b ≡ is_among ds b
is_of-is [] b = refl
is_of-is (d ∷ ds) b = grind (arith, common_steps, nat_tests, is_of-is ds b)

-- A run of ASCII characters is the same run of bytes.
module _ (ds : List ℕ) (ascii : list_all (λ d. nat_lt d 128) ds ≡ true) where
  small : (c : ℕ) → is_among ds c ≡ true → c < 128
  small c e = ltb-true c 128 (among (λ d. nat_lt d 128) ds ascii c e)

  run-encode : (w s : Chars) → AreAll (is_among ds) w → NextNotIn ds s
      → prefix_len (is_of ds) (encode_utf8_all (w ++ s)) ≡ length w
  run-encode [] [] all stop = refl
  run-encode [] (c ∷ s) all stop =
      prefix_len_is (is_of ds) (encode_utf8_all (c ∷ s)) 0 0 (omega arith) (λ k less. absurd (omega arith))
      (λ some. false_from_ne_true _ (λ t.
      let first : is_among ds (get_or (encode_utf8_all (c ∷ s)) 0 0) ≡ true = sym (is_of-is ds _) ∙ t in
      let same = char_from_byte (encode_utf8_all (c ∷ s)) (encode_utf8_all s) c refl (small _ first) some in
      true≢false (sym first ∙ (ap (is_among ds) (sym same) ∙ stop))))
  run-encode (c ∷ w) s all stop =
      let parts = and_parts (is_among ds c) (list_all (is_among ds) w) all in
      rw (encode_ascii c (small c parts.0), is_of-is ds c, parts.0) (omega (arith, run-encode w s parts.1 stop))

  drop-encode : (w s : Chars) → AreAll (is_among ds) w → drop (length w) (encode_utf8_all (w ++ s)) ≡ encode_utf8_all s
  drop-encode [] s all = refl
  drop-encode (c ∷ w) s all =
      let parts = and_parts (is_among ds c) (list_all (is_among ds) w) all in
      rw (encode_ascii c (small c parts.0)) (drop-encode w s parts.1)

-- ---- dashes

fence-all : (p : ℕ → Bool) → p 45 ≡ true → (n : ℕ) → AreAll p (fence n)
fence-all p passes zero = refl
fence-all p passes (suc n) = rw (passes, fence-all p passes n) refl

not_dash : (s : Chars) → NextNotIn (codes "-") s → NextIsNot is_dash s
not_dash s stop = grind (arith, common_steps, or_parts)

no_dash : (s : Chars) → NextIsNot is_dash s → NextNotIn (codes "-") s
no_dash s stop = grind (arith, common_steps)

dashes-encode : (n : ℕ) (s : Chars) → NextNotIn (codes "-") s → dashes (encode_utf8_all (fence n ++ s)) ≡ n
dashes-encode n s stop = run-encode (codes "-") refl (fence n) s (fence-all (is_among (codes "-")) refl n) stop
    ∙ fence-length n

drop-dashes : (n : ℕ) (s : Chars) → drop n (encode_utf8_all (fence n ++ s)) ≡ encode_utf8_all s
drop-dashes n s =
    rw (fence-length n) at (drop-encode (codes "-") refl (fence n) s (fence-all (is_among (codes "-")) refl n))

-- Dashes at the start of a line and the text after it are on that line.
begins-line : (n : ℕ) (line next : Chars) → NextIsNot is_inline next → begins (fence n) (line ++ next) ≡ true
    → begins (fence n) line ≡ true
begins-line zero line next stop e = refl
begins-line (suc n) [] [] stop e = e
begins-line (suc n) [] (c ∷ next) stop e = grind (arith, common_steps, nat_tests)
begins-line (suc n) (c ∷ line) next stop e =
    let parts = and_parts (c == 45) (begins (fence n) (line ++ next)) e in
    rw (parts.0, begins-line n line next stop parts.1) refl

-- A line that starts with dashes starts with no blanks, and has no more dashes there.
flush : (n d : ℕ) (bs v : Chars) → 0 < n → AreAll is_horizontal_whitespace bs → NextNotIn (codes "-") v
    → begins (fence n) (bs ++ (fence d ++ v)) ≡ true → (length bs ≡ 0) × (n ≤ d)
flush n d [] v some blank stop e =
    let run = run_len-here is_dash (fence d) v (fence-all is_dash refl d) (not_dash v stop) in
    (refl, omega (arith, begins-dashes n (fence d ++ v) e, run, fence-length d))
flush zero d (c ∷ bs) v some blank stop e = absurd (omega arith)
flush (suc n) d (c ∷ bs) v some blank stop e =
    absurd (true≢false
    (sym (and_parts (c == 45) _ e).0 ∙ other_than is_horizontal_whitespace 45 c refl
    (and_parts (is_horizontal_whitespace c) _ blank).0))

-- ---- lines

all-inline : (p : ℕ → Bool) → p 10 ≡ false → (s : Chars) → AreAll p s → AreAll is_inline s
all-inline p none [] all = refl
all-inline p none (c ∷ s) all = let parts = and_parts (p c) (list_all p s) all in
    rw (other_than p 10 c none parts.0, all-inline p none s parts.1) refl

inline-append : (u v : Chars) → AreAll is_inline u → AreAll is_inline v → AreAll is_inline (u ++ v)
inline-append u v first next = list_all-append is_inline u v ∙ and_from _ _ first next

label-inline : {next w : Chars} → IsLabelBefore next w → AreAll is_inline w
label-inline (the.blank {w} all stop start) = all-inline is_horizontal_whitespace refl w all
label-inline (the.named u c v w before start info info_stops after stop) =
    let start_none : is_id_start 10 ≡ false =
    false_from_ne_true (is_id_start 10) (λ f. true≢false (word_start-no_space 10 (start-word_start 10 f))) in
    let info_none : is_info 10 ≡ false = ap (λ (b : Bool). b || false) (sym (continue_part.same 10 (omega arith))) in
    let name : AreAll is_inline (c ∷ v) =
    rw (other_than is_id_start 10 c start_none start) (all-inline is_info info_none v info) in
    inline-append u (c ∷ v ++ w) (all-inline is_horizontal_whitespace refl u before)
    (inline-append (c ∷ v) w name (all-inline is_horizontal_whitespace refl w after))

-- A text has a last line: the text after its last newline, or the whole text.
data HasLast : Chars → Type 0 where
  only : {s : Chars} → AreAll is_inline s → HasLast s
  last : (u line : Chars) → AreAll is_inline line → HasLast (u ++ 10 ∷ line)

has_last-cons : (c : ℕ) {s : Chars} → HasLast s → HasLast (c ∷ s)
has_last-cons c (last u line all) = last (c ∷ u) line all
has_last-cons c {s} (only all) =
    by_either (c == 10) (λ e. rw (eqb-true c 10 e) (last [] s all))
    (λ e. only (rw e all))

has_last : (s : Chars) → HasLast s
has_last [] = only refl
has_last (c ∷ s) = has_last-cons c (has_last s)

one-encode : (s : Chars) → AreAll is_inline s → list_any is_newline (encode_utf8_all s) ≡ false
one-encode [] all = refl
one-encode (c ∷ s) all =
    let parts = and_parts (is_inline c) (list_all is_inline s) all in
    let first = list_any_none is_newline (encode_utf8 c)
    (All-from_get_or (λ x. is_newline x ≡ false) (encode_utf8 c) 0 (λ k less.
    let out = parts.0 in
    let same = inside_one c [] (encode_utf8 c) k (sym (append-nil (encode_utf8 c))) less in
    grind (arith, nat_tests))) in
    list_any-append is_newline (encode_utf8 c) (encode_utf8_all s) ∙ rw (first, one-encode s parts.1) refl

last_byte : (u line : List ℕ) → list_any is_newline line ≡ false
    → IsLastByte (is_byte 10) (u ++ 10 ∷ line) (Some (length u))
last_byte u line none =
    let xs : List ℕ = u ++ 10 ∷ line in
    let long : length xs ≡ length u + suc (length line) = length-append u (10 ∷ line) in
    let after = λ (k : ℕ) (low : length u + 1 ≤ k) (less : k < length xs).
    let at = list_any_at is_newline line (k - (length u + 1)) 0 in
    let result : is_newline (get_or xs k 0) ≡ false = grind (arith, common_steps, nat_tests) in result in (
      record {
        low = omega arith;
        high = omega arith;
        after = λ k low less here. true≢false
            (sym here ∙ after k low less);
      },
      ap is_newline (get_or-append_seam u 10 line 0),
    )

-- In bytes, the last line is the text after the last newline.
last-encode : (u line : Chars) → AreAll is_inline line
    → (list_any is_newline (encode_utf8_all (u ++ 10 ∷ line)) ≡ true)
    × (after_last is_newline (encode_utf8_all (u ++ 10 ∷ line)) ≡ encode_utf8_all line)
unfolding encode_utf8
last-encode u line all =
    let front : List ℕ = encode_utf8_all u in
    let past = last-line _ (length front) (last_byte front (encode_utf8_all line) (one-encode line all)) in
    rw (encodes-append u (10 ∷ line)) (
      past.0,
      past.1 ∙ (sym (drop-drop 1 (length front) (front ++ 10 ∷ encode_utf8_all line))
          ∙ ap (drop 1) (drop-append_seam front (10 ∷ encode_utf8_all line))),
    )

end-encode : (s : Chars) → is_end (encode_utf8_all s) ≡ is_end s
unfolding is_end
end-encode [] = refl
end-encode (c ∷ []) = by_either (nat_lt c 128)
    (λ e. rw (encode_ascii c (ltb-true c 128 e)) refl)
    (λ e.
    let high = ltb-false c 128 e in let wide = length-encode c in let bounds = len_utf8_bounds c in
    let long = length-append (encode_utf8 c) [] in
    grind (arith, nat_tests))
end-encode (c ∷ d ∷ s) = let long = length-le-encodes (c ∷ d ∷ s) in grind (arith, nat_tests)

-- ---- the error by the shape of the last line

abbrev verdict : ℕ → Chars → ℕ → Chars → Option TokenError
verdict n bs d end =
    if nat_lt d 3 then Some UnclosedFrontmatter
    else if nat_lt 0 (length bs) then Some WhitespaceBeforeFrontmatterClose
    else if not (nat_eq d n) then Some (FrontmatterCloseMismatch n d)
    else if is_end end then None else Some ExtraAfterFrontmatterClose

-- Returns how many dashes follow the blanks of the last line.
abbrev last_dashes : Chars → ℕ
last_dashes s = let line = after_last is_newline (encode_utf8_all s) in dashes (drop (blanks line) line)

last_dashes-is : (u bs v : Chars) → AreAll is_horizontal_whitespace bs → NextIsNot is_horizontal_whitespace v
    → AreAll is_inline (bs ++ v)
    → last_dashes (u ++ 10 ∷ (bs ++ v)) ≡ dashes (encode_utf8_all v)
last_dashes-is u bs v blank stop inline =
    rw (
      (last-encode u (bs ++ v) inline).1,
      run-encode (codes "\t ") refl bs v blank stop,
      drop-encode (codes "\t ") refl bs v blank,
    ) refl

-- A last line that starts with blanks and at least three dashes meets `EndsAfter`.
ends_after : (d : ℕ) (u bs v : Chars) → 3 ≤ d → AreAll is_horizontal_whitespace bs → AreAll is_inline (fence d ++ v)
    → EndsAfter bs (u ++ 10 ∷ (bs ++ (fence d ++ v)))
ends_after (suc (suc (suc d))) u bs v many blank plain = (u, fence d ++ v, refl, blank, plain)
ends_after d u bs v many blank plain = absurd (omega arith)

-- The case of a last line that starts with n dashes.
closes : (n : ℕ) (next u cs end : Chars) → NextNotIn (codes "-") (cs ++ end) → AreAll is_horizontal_whitespace cs
    → NextIsNot is_horizontal_whitespace end → AreAll is_inline end
    → IsEndError n next (u ++ 10 ∷ (fence n ++ (cs ++ end)))
    (if is_end end then None else Some ExtraAfterFrontmatterClose)
unfolding is_end
closes n next u cs [] stop blank end_stop plain = closed u cs [] blank refl
closes n next u cs (c ∷ w) stop blank end_stop plain =
    by_test (IsEndError n next (u ++ 10 ∷ (fence n ++ (cs ++ c ∷ w)))) (is_end (c ∷ w)) _ _
    (λ ends. closed u cs (c ∷ w) blank ends)
    (λ more. more_words u cs c w blank end_stop more stop plain)

-- Holds if no line starts with k dashes, unless the last line does.
abbrev NoneUnless : ℕ → Chars → Chars → Chars → Type 0
NoneUnless k next u line = begins (fence k) line ≡ false → NoLineBegins k ((u ++ 10 ∷ line) ++ next)

-- The error at the end of a body. By `same`, it is also the error of the whole token, whose first line starts with n
-- dashes.
record Told (n : ℕ) (next body : Chars) : Type 0 where
  end : Option TokenError
  is : IsEndError n next body end
  free : IsOpen body next → end ≡ Some UnclosedFrontmatter
  same : (front : Chars) → dashes (encode_utf8_all (front ++ body)) ≡ n → AreAll is_inline front
      → end_error (encode_utf8_all (front ++ body)) ≡ end

-- The error by the parts of the last line: blanks, d dashes, blanks, and the rest.
module _ (n d : ℕ) (u bs cs end : Chars) (blank : AreAll is_horizontal_whitespace bs)
    (first_stop : NextIsNot is_horizontal_whitespace (fence d ++ (cs ++ end)))
    (stop : NextNotIn (codes "-") (cs ++ end)) (end_blank : AreAll is_horizontal_whitespace cs)
    (end_stop : NextIsNot is_horizontal_whitespace end)
    (inline : AreAll is_inline (bs ++ (fence d ++ (cs ++ end)))) where
  closing-read : closing_error n (encode_utf8_all (bs ++ (fence d ++ (cs ++ end)))) ≡ verdict n bs d end
  closing-read =
      rw (
        run-encode (codes "\t ") refl bs (fence d ++ (cs ++ end)) blank first_stop,
        drop-encode (codes "\t ") refl bs
            (fence d ++ (cs ++ end)) blank,
      )
      (rw (dashes-encode d (cs ++ end) stop, drop-dashes d (cs ++ end))
      (rw (
        run-encode (codes "\t ") refl cs end end_blank end_stop,
        drop-encode (codes "\t ") refl cs end end_blank,
        end-encode end,
      ) refl))

  line-read : (front : Chars)
      → dashes (encode_utf8_all (front ++ (u ++ 10 ∷ (bs ++ (fence d ++ (cs ++ end)))))) ≡ n
      → end_error (encode_utf8_all (front ++ (u ++ 10 ∷ (bs ++ (fence d ++ (cs ++ end)))))) ≡ verdict n bs d end
  line-read front run =
      let line : Chars = bs ++ (fence d ++ (cs ++ end)) in
      let text : Chars = (front ++ u) ++ 10 ∷ line in
      let whole : front ++ (u ++ 10 ∷ line) ≡ text = sym (append_assoc front u (10 ∷ line)) in
      let past = last-encode (front ++ u) line inline in
      let opens : dashes (encode_utf8_all text) ≡ n = rw whole at run in
      rw (whole, past.0, past.1, opens) closing-read

module _ (n d : ℕ) (next u bs cs end : Chars) (many : 3 ≤ n) (blank : AreAll is_horizontal_whitespace bs)
    (first_stop : NextIsNot is_horizontal_whitespace (fence d ++ (cs ++ end)))
    (stop : NextNotIn (codes "-") (cs ++ end)) (end_blank : AreAll is_horizontal_whitespace cs)
    (end_stop : NextIsNot is_horizontal_whitespace end)
    (inline : AreAll is_inline (bs ++ (fence d ++ (cs ++ end))))
    (lone : NoneUnless 3 next u (bs ++ (fence d ++ (cs ++ end))))
    (first : NoneUnless n next u (bs ++ (fence d ++ (cs ++ end)))) where
  abbrev line : Chars
  line = bs ++ (fence d ++ (cs ++ end))

  abbrev body : Chars
  body = u ++ 10 ∷ line

  plain : AreAll is_inline (fence d ++ (cs ++ end))
  plain = all-past is_inline bs (fence d ++ (cs ++ end)) inline

  no-dashes : d < 3 → (ws : Chars) → EndsAfter ws body → ⊥
  unfolding encode_utf8
  no-dashes few ws ends =
      let here = last_dashes-is u bs (fence d ++ (cs ++ end)) blank first_stop inline
      ∙ dashes-encode d (cs ++ end) stop in
      let clean = inline-append ws (fence 3 ++ ends.1) (all-inline is_horizontal_whitespace refl ws ends.3) ends.4 in
      let there = last_dashes-is ends.0 ws (fence 3 ++ ends.1) ends.3 refl clean in
      let same = ap last_dashes ends.2 in
      omega arith

  lone-unless : ((length bs ≡ 0) × (3 ≤ d) → ⊥) → NoLineBegins 3 (body ++ next)
  lone-unless other = lone (false_from_ne_true _ (λ t. other (flush 3 d bs (cs ++ end) (omega arith) blank stop t)))

  -- The case of a last line without leading blanks.
  at-once : bs ≡ [] → 3 ≤ d → IsEndError n next body
      (if not (nat_eq d n) then Some (FrontmatterCloseMismatch n d) else if is_end end then None else Some
      ExtraAfterFrontmatterClose)
  at-once none enough =
      let left = all-past is_inline (fence d) (cs ++ end) plain in
      rw none (elim (cases_eq d n) [
        | inl same ↦ rw (eq-eqb d n same, same)
            (closes n next u cs end stop end_blank end_stop (all-past is_inline cs end left))
        | inr other ↦ rw (ne_eqb d n other) (other_dashes u (cs ++ end) d enough (λ le.
            let few : d < n = omega arith in (
              few,
              rw none at (first (false_from_ne_true _ (λ t.
                  let f = flush n d bs (cs ++ end) (omega arith) blank stop t in omega (arith, f.1)))),
            )) stop left)
      ])

  told-last : Told n next body
  told-last = record {
    end = verdict n bs d end;
    is = by_test (IsEndError n next body) (nat_lt d 3) _ _
        (λ few. unclosed (lone-unless (λ f. omega (arith, f.1, ltb-true d 3 few)), no-dashes (ltb-true d 3 few)))
        (λ enough. by_test (IsEndError n next body) (nat_lt 0 (length bs)) _ _
        (λ some. indented bs (lone-unless (λ f. omega (arith, f.0, ltb-true 0 (length bs) some)))
        (ltb-true 0 (length bs) some) (ends_after d u bs (cs ++ end) (ltb-false d 3 enough) blank plain))
        (λ none. at-once (nil_from_length bs (omega (arith, ltb-false 0 (length bs) none))) (ltb-false d 3 enough)));
    free = λ free. by_either (nat_lt d 3) (λ few. rw few refl)
        (λ enough. absurd (free.1 bs (ends_after d u bs (cs ++ end) (ltb-false d 3 enough) blank plain)));
    same = λ front run clean. line-read n d u bs cs end blank first_stop stop end_blank end_stop inline front run;
  }

-- Divides the last line into blanks, dashes, blanks and the rest.
told-line : (n : ℕ) (next u line : Chars) → 3 ≤ n → AreAll is_inline line → NoneUnless 3 next u line
    → NoneUnless n next u line → Told n next (u ++ 10 ∷ line)
told-line n next u line many =
    let rest : Chars = drop (blanks_len line) line in
    let d : ℕ = run_len is_dash rest in
    let tail : Chars = drop d rest in
    let left : Chars = drop (blanks_len tail) tail in
    let cut : take (blanks_len tail) tail ++ left ≡ tail = take-append-drop (blanks_len tail) tail in
    let whole : fence d ++ (take (blanks_len tail) tail ++ left) ≡ rest =
    cc (run-fence rest, take-append-drop d rest) in
    let all : take (blanks_len line) line ++ (fence d ++ (take (blanks_len tail) tail ++ left)) ≡ line =
    cc (take-append-drop (blanks_len line) line) in
    rw (← all) (told-last n d next u (take (blanks_len line) line) (take (blanks_len tail) tail) left many
    (run_all is_horizontal_whitespace line)
    (rw whole (run-stops is_horizontal_whitespace line))
    (no_dash (take (blanks_len tail) tail ++ left) (rw cut (run-stops is_dash rest)))
    (run_all is_horizontal_whitespace tail) (run-stops is_horizontal_whitespace tail))

-- The case without a line that starts with three dashes, or with n.
told-lone : (n : ℕ) (next : Chars) {body : Chars} → 3 ≤ n → HasLast body → NoLineBegins 3 (body ++ next)
    → NoLineBegins n (body ++ next) → Told n next body
told-lone n next many (last u line all) lone none = told-line n next u line many all (λ _. lone) (λ _. none)
told-lone n next {body} many (only all) lone none = record {
  end = Some UnclosedFrontmatter;
  is =
      unclosed (
        lone,
        λ ws ends. true≢false
            (sym (all-past is_inline ends.0 (10 ∷ (ws ++ (fence 3 ++ ends.1)))
            (ap (list_all is_inline) (sym ends.2) ∙ all))),
      );
  free = λ free. refl;
  same = λ front run clean. rw (one-encode (front ++ body) (inline-append front body clean all)) refl;
}

told-body : (n : ℕ) {next body : Chars} → 3 ≤ n → IsBodyBefore next (endings n) body → Told n next body
told-body n {next} many (the.with_line pattern u line is all stop) =
    let here : begins (fence n) line ≡ true = begins-line n line next stop is.here in
    let three : begins (fence 3) line ≡ true = begins-enough 3 line (omega (arith, many, begins-dashes n line here)) in
    told-line n next u line many all (λ e. absurd (true≢false (sym three ∙ e)))
    (λ e. absurd (true≢false (sym here ∙ e)))
told-body n {next} many (the.other pattern none (the.with_line three u line is all stop)) =
    told-line n next u line many all (λ e. absurd (true≢false (sym (begins-line 3 line next stop is.here) ∙ e)))
    (λ _. none)
told-body n {next} {body} many (the.other pattern none (the.other three lone left)) =
    told-lone n next many (has_last body) lone none

-- ---- no other error is allowed

-- Holds if an error is the one that is found, for each front of a text whose first line starts with n dashes.
abbrev IsFound : ℕ → Chars → Option TokenError → Type 0
IsFound n body error =
    (front : Chars) → dashes (encode_utf8_all (front ++ body)) ≡ n → AreAll is_inline front
    → end_error (encode_utf8_all (front ++ body)) ≡ error

fence-stop : (n : ℕ) (s : Chars) → 0 < n → NextIsNot is_horizontal_whitespace (fence n ++ s)
fence-stop zero s some = absurd (omega arith)
fence-stop (suc n) s some = refl

blank-stop : (w s : Chars) → AreAll is_horizontal_whitespace w → NextNotIn (codes "-") s
    → NextNotIn (codes "-") (w ++ s)
blank-stop [] s all stop = stop
blank-stop (c ∷ w) s all stop =
    let first = (and_parts (is_horizontal_whitespace c) (list_all is_horizontal_whitespace w) all).0 in
    grind (arith, common_steps, nat_tests)

-- The text after the fence of a last line without an error: nothing, or the carriage return of a CRLF.
record EndsLine (end : Chars) : Type 0 where
  no_dash : NextNotIn (codes "-") end
  no_blank : NextIsNot is_horizontal_whitespace end
  plain : AreAll is_inline end

ends_line : (end : Chars) → is_end end ≡ true → EndsLine end
unfolding is_end
ends_line [] ends = record { no_dash = refl; no_blank = refl; plain = refl }
ends_line (c ∷ []) ends =
    let same : c ≡ 13 = eqb-true c 13 ends in
    rw same record { no_dash = refl; no_blank = refl; plain = refl }
ends_line (c ∷ d ∷ s) ends =
    let none : is_end (c ∷ d ∷ s) ≡ false = grind (arith, nat_tests) in absurd (true≢false (sym ends ∙ none))

verdict-same : (n : ℕ) (end : Chars) → 3 ≤ n
    → verdict n [] n end ≡ (if is_end end then None else Some ExtraAfterFrontmatterClose)
verdict-same n end many = grind (arith, common_steps, nat_tests)

verdict-other : (n d : ℕ) (end : Chars) → 3 ≤ d → (d ≡ n → ⊥) → verdict n [] d end ≡ Some (FrontmatterCloseMismatch n d)
verdict-other n d end enough other = grind (arith, common_steps, nat_tests)

verdict-indented : (n d : ℕ) (bs end : Chars) → 3 ≤ d → 0 < length bs
    → verdict n bs d end ≡ Some WhitespaceBeforeFrontmatterClose
verdict-indented n d bs end enough some = grind (arith, common_steps, nat_tests)

-- A last line that starts with n dashes.
found-same : (n : ℕ) (u cs end : Chars) → 3 ≤ n → AreAll is_horizontal_whitespace cs
    → NextIsNot is_horizontal_whitespace end → NextNotIn (codes "-") (cs ++ end) → AreAll is_inline end
    → IsFound n (u ++ 10 ∷ (fence n ++ (cs ++ end))) (if is_end end then None else Some ExtraAfterFrontmatterClose)
found-same n u cs end many blank end_stop stop plain front run clean =
    let inline : AreAll is_inline (fence n ++ (cs ++ end)) =
    inline-append (fence n) (cs ++ end) (fence-all is_inline refl n)
    (inline-append cs end (all-inline is_horizontal_whitespace refl cs blank) plain) in
    line-read n n u [] cs end refl (fence-stop n (cs ++ end) (omega arith)) stop blank end_stop inline front run
    ∙ verdict-same n end many

-- A last line that starts with m other dashes.
found-other : (n m : ℕ) (u w : Chars) → 3 ≤ m → (m ≡ n → ⊥) → NextNotIn (codes "-") w → AreAll is_inline w
    → IsFound n (u ++ 10 ∷ (fence m ++ w)) (Some (FrontmatterCloseMismatch n m))
found-other n m u w enough other stop plain =
    let cs : Chars = take (blanks_len w) w in
    let end : Chars = drop (blanks_len w) w in
    let cut : cs ++ end ≡ w = take-append-drop (blanks_len w) w in
    let inline : AreAll is_inline (fence m ++ (cs ++ end)) =
    rw cut (inline-append (fence m) w (fence-all is_inline refl m) plain) in
    let stops : NextNotIn (codes "-") (cs ++ end) = rw cut stop in
    let found : IsFound n (u ++ 10 ∷ (fence m ++ (cs ++ end))) (Some (FrontmatterCloseMismatch n m)) =
    λ front run clean. line-read n m u [] cs end refl (fence-stop m (cs ++ end) (omega arith)) stops
    (run_all is_horizontal_whitespace w) (run-stops is_horizontal_whitespace w) inline front run
    ∙ verdict-other n m end enough other in
    subst (λ (s : Chars). IsFound n (u ++ 10 ∷ (fence m ++ s)) (Some (FrontmatterCloseMismatch n m))) cut found

-- A last line with blanks before at least three dashes.
found-indented : (n : ℕ) (u bs w : Chars) → 0 < length bs → AreAll is_horizontal_whitespace bs → AreAll is_inline w
    → IsFound n (u ++ 10 ∷ (bs ++ (fence 3 ++ w))) (Some WhitespaceBeforeFrontmatterClose)
found-indented n u bs w some blank plain =
    let k : ℕ = run_len is_dash w in
    let rest : Chars = drop k w in
    let cs : Chars = take (blanks_len rest) rest in
    let end : Chars = drop (blanks_len rest) rest in
    let d : ℕ = suc (suc (suc k)) in
    let cut : cs ++ end ≡ rest = take-append-drop (blanks_len rest) rest in
    let whole : fence k ++ (cs ++ end) ≡ w = cc (run-fence w, take-append-drop k w, cut) in
    let stop : NextNotIn (codes "-") (cs ++ end) = rw cut (no_dash rest (run-stops is_dash w)) in
    let left : AreAll is_inline (fence k ++ (cs ++ end)) = rw whole plain in
    let inline : AreAll is_inline (bs ++ (fence d ++ (cs ++ end))) =
    inline-append bs (fence d ++ (cs ++ end)) (all-inline is_horizontal_whitespace refl bs blank) left in
    let found : IsFound n (u ++ 10 ∷ (bs ++ (fence 3 ++ (fence k ++ (cs ++ end)))))
    (Some WhitespaceBeforeFrontmatterClose) =
    λ front run clean. line-read n d u bs cs end blank refl stop (run_all is_horizontal_whitespace rest)
    (run-stops is_horizontal_whitespace rest) inline front run
    ∙ verdict-indented n d bs end (omega arith) some in
    subst (λ (s : Chars). IsFound n (u ++ 10 ∷ (bs ++ (fence 3 ++ s))) (Some WhitespaceBeforeFrontmatterClose)) whole
    found

end-found : (n : ℕ) {next body : Chars} {error : Option TokenError} → 3 ≤ n → IsBodyBefore next (endings n) body
    → IsEndError n next body error → IsFound n body error
end-found n many is_body (closed u cs end blank ends) =
    let the_end = ends_line end ends in
    rw ends at (found-same n u cs end many blank the_end.no_blank (blank-stop cs end blank the_end.no_dash) the_end.plain)
end-found n many is_body (more_words u cs c w blank out more stop plain) =
    rw more at (found-same n u cs (c ∷ w) many blank out stop plain)
end-found n many is_body (other_dashes u w m enough fewer stop plain) =
    found-other n m u w enough (λ e. let less = (fewer (omega (arith, e))).0 in omega (arith, e, less)) stop plain
end-found n {body = body} many is_body (indented bs none some ends) =
    subst (λ (s : Chars). IsFound n s (Some WhitespaceBeforeFrontmatterClose)) (sym ends.2)
    (found-indented n ends.0 bs ends.1 some ends.3 ends.4)
end-found n many is_body (unclosed open_end) = λ front run clean.
    let told = told-body n many is_body in
    told.same front run clean ∙ told.free open_end

-- ---- the label

label-past : (body next : Chars) {label : Chars} → IsLabelBefore (body ++ next) label
    → past_run is_horizontal_whitespace (past_infostring (past_run is_horizontal_whitespace (label ++ body))) ≡ body
label-past body next (the.blank {w} all stop start) =
    let ends = front-stops is_horizontal_whitespace body next stop in
    rw (past-here is_horizontal_whitespace w body all ends, front-stops is_id_start body next start)
    (past-here is_horizontal_whitespace [] body refl ends)
label-past body next (the.named u c v w before start info info_stops after stop) =
    let whole : (u ++ (c ∷ v ++ w)) ++ body ≡ u ++ (c ∷ (v ++ (w ++ body))) = simp append_assoc in
    let info_ends = front-stops is_info (w ++ body) next (ap (next_is is_info) (append_assoc w body next)
    ∙ info_stops) in
    let no_blank : is_horizontal_whitespace c ≡ false =
    grind (arith, common_steps, word_start-no_space c (start-word_start c start)) in
    rw (
      whole,
      past-here is_horizontal_whitespace u (c ∷ (v ++ (w ++ body))) before no_blank,
      start,
      past-here is_info v (w ++ body) info info_ends,
    )
    (past-here is_horizontal_whitespace w body after (front-stops is_horizontal_whitespace body next stop))

-- ---- the error of the token

opening-told : {n : ℕ} {bad_label : Bool} {opening body : Chars} (next text : List ℕ) (error : Option TokenError)
    → IsOpeningBefore (body ++ next) n bad_label opening → IsFound n body error
    → chars text ≡ opening ++ body → encode_utf8_all (opening ++ body) ≡ text
    → (if next_is is_whitespace opening then Some WhitespaceBeforeFrontmatter else front_error
    (bad_label && not (has_crlf (chars text))) (end_error text))
    ≡ (if next_is is_whitespace opening then Some WhitespaceBeforeFrontmatter else front_error
    (bad_label && not (begins (codes "\r\n") body)) error)
opening-told next text error (the.opening n (c ∷ space) label spaces no_line many is stop) found reads whole =
    rw (and_parts (is_whitespace c) (list_all is_whitespace space) spaces).0 refl
opening-told next text error (the.opening zero [] label spaces no_line many is stop) found reads whole =
    absurd (omega arith)
opening-told {body = body} next text error (the.opening (suc n) [] label spaces no_line many is stop) found
    reads whole =
    let front : Chars = fence (suc n) ++ label in
    let split : front ++ body ≡ fence (suc n) ++ (label ++ body) = append_assoc (fence (suc n)) label body in
    let stops = front-stops (is_among (codes "-")) (label ++ body) next
    (ap (next_is (is_among (codes "-"))) (append_assoc label body next) ∙ stop) in
    let run = ap (λ (s : Chars). dashes (encode_utf8_all s)) split ∙ dashes-encode (suc n) (label ++ body) stops in
    let name : past_run is_dash (chars text) ≡ label ++ body =
    ap (past_run is_dash) (reads ∙ split)
    ∙ past-here is_dash (fence (suc n)) (label ++ body) (fence-all is_dash refl (suc n))
    (not_dash (label ++ body) stops) in
    let ends = ap end_error (sym whole)
    ∙ found front run
    (inline-append (fence (suc n)) label (fence-all is_inline refl (suc n)) (label-inline is)) in
    rw (ends, name, label-past body next is) refl

many-dashes : {n : ℕ} {bad_label : Bool} {opening next : Chars} → IsOpeningBefore next n bad_label opening → 3 ≤ n
many-dashes (the.opening n space label spaces no_line enough is stop) = enough

module _ (space bad_label : Bool) (text : List ℕ) (utf8 : IsUtf8 text) (r : Reading space bad_label text) where
  -- The error that is found, by the error at the end.
  found-told : (error : Option TokenError) → IsFound r.n r.body error → error_in_front space bad_label text
      ≡ option_or
      (if space then Some WhitespaceBeforeFrontmatter
      else front_error (bad_label && not (begins (codes "\r\n") r.body)) error)
      (frontmatter_error text)
  found-told error found =
      let back = ap encode_utf8_all (sym r.whole) ∙ encodes-chars text utf8 in
      let told = rw r.starts at (opening-told r.next text error r.opens found r.whole back) in
      ap (λ (e : Option TokenError). option_or e (frontmatter_error text)) told

  pub error-is : IsErrorOf r (error_in_front space bad_label text)
  error-is =
      let told = told-body r.n (many-dashes r.opens) r.ends in
      record { end = told.end; is = told.is; told = found-told told.end told.same }

  pub error-only : (other : Option TokenError) → IsErrorOf r other → other ≡ error_in_front space bad_label text
  error-only other is =
      is.told ∙ sym (found-told is.end (end-found r.n (many-dashes r.opens) r.ends is.is))

abbrev pub the_error : (space bad_label : Bool) (text : List ℕ)
    → TheOnly (IsUtf8 text × Reading space bad_label text) (IsFrontmatterError space bad_label text)
the_error space bad_label text = record {
  answer = error_in_front space bad_label text;
  only = λ p other. (
    λ is. error-only space bad_label text p.0 p.1 other (is p.1),
    λ e. subst (IsFrontmatterError space bad_label text) (sym e) (λ r. error-is space bad_label text p.0 r),
  );
}
