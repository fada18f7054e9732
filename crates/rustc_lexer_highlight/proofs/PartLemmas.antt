-- The text of a part with its markup, and the calls that write it.
use Rattle.std.proofs.Common.{◌≡◌, ℕ, zero, suc, ◌%◌, ◌==◌, Bool, true, false, List, [], ◌∷◌, ◌++◌, length, take, drop}
use Rattle.std.proofs.Common.{refl, ap, ◌∙◌, arith, append_assoc, not, take-append-drop, ◌-◌, append-nil}
use Rattle.std.proofs.Common.{true≢false, ◌<◌, IsCharBoundary}
use Rattle.std.proofs.Math.Seq.{drop-length, split_at}
use Rattle.std.specs.{Prelude.{decimal}, Fmt.{digit_glyph, digits, digits_onto, WritesInCalls}}
use Rattle.std.proofs.lemmas.{Bool.{eqb-true, ne_eqb}, List.Concat.{flat_map-append}, Grind.{common_steps}}
use Rattle.rustc_literal_escaper.specs.declared.error.EscapeError.{EscapeError}
use Rattle.rustc_lexer_errors.specs.declared.errors.TokenError.{TokenError}
use Rattle.rustc_lexer_highlight.specs.declared.{class.Class.{Class}, format.{Format.{Format, TheVariants.{Html}}}}
use Rattle.rustc_lexer_errors.specs.TokenError.{message}
use Rattle.rustc_lexer_highlight.specs.{Escape.{escaped, escaped_byte, untagged, untagged_from}}
use Rattle.rustc_literal_escaper.specs.Numbers.{error_message}
use Rattle.rustc_lexer_highlight.specs.Markup.{class_open, class_close, error_open, error_close}
use Rattle.rustc_lexer_highlight.specs.Part.{Part, Own, Close, before_return, error_parts, first_line, is_cut_line_end, own, return_part, shown}
use Rattle.rustc_lexer_highlight.specs.Part.{with_markup, without_markup, written}
use Rattle.rustc_lexer_highlight.proofs.{CallLemmas.{no_calls, one_call, writes_both}, EscapeLemmas.{untagged_escaped}}

pub without_error : (error : TokenError) (class : Class) (text : List ℕ)
    → without_markup (error_parts error class text) ≡ text
without_error error class text = grind (arith, common_steps, append-nil, take-append-drop)

-- The text can be cut before the carriage return at its end.
module _ (text next : List ℕ) (ends : is_cut_line_end text next ≡ true) where
  pub may_cut_return : (0 < length text) × IsCharBoundary text (length text - 1)
  may_cut_return = grind (arith, common_steps, eqb-true)

  cut_return : take (length text - 1) text ++ (13 ∷ []) ≡ text
  cut_return =
      let last = split_at text (length text - 1) 0 (omega (arith, may_cut_return.0)) in
      let past : suc (length text - 1) ≡ length text = omega (arith, may_cut_return.0) in
      grind (arith, common_steps, eqb-true, last, past, drop-length)

-- The text before the carriage return of a cut CRLF, and that carriage return, are the text.
pub without_return : (text next : List ℕ) → before_return text next ++ without_markup (return_part text next) ≡ text
without_return text next = grind (arith, common_steps, cut_return, append-nil)

-- ---- the markup of a page displays nothing

-- A digit does not end a tag.
no_end : (n : ℕ) → digit_glyph false (n % 10) ≡ 62 → ⊥
no_end n = grind (arith, common_steps)

in_digit : (d : ℕ) (acc rest : List ℕ) → (d ≡ 62 → ⊥) → untagged_from true (acc ++ rest) ≡ untagged_from true rest
    → untagged_from true ((d ∷ acc) ++ rest) ≡ untagged_from true rest
in_digit d acc rest other at = ap (λ (x : Bool). untagged_from (not x) (acc ++ rest)) (ne_eqb d 62 other) ∙ at

in_digits : (k n : ℕ) (acc rest : List ℕ) → untagged_from true (acc ++ rest) ≡ untagged_from true rest
    → untagged_from true (digits_onto k 10 false n acc ++ rest) ≡ untagged_from true rest
in_digits zero n acc rest at = at
in_digits (suc k) n acc rest at = grind (arith, common_steps, in_digit, no_end, in_digits k)

in_decimal : (n : ℕ) (rest : List ℕ) → untagged_from true (decimal n ++ rest) ≡ untagged_from true rest
unfolding digits
in_decimal n rest = in_digits 64 n [] rest refl

in_error : (error : EscapeError) (rest : List ℕ) → untagged_from true (error_message error ++ rest) ≡
    untagged_from true rest
in_error error rest = grind (arith, common_steps)

-- A message does not end a tag.
in_message : (error : TokenError) (rest : List ℕ)
    → untagged_from true (message error ++ rest) ≡ untagged_from true rest
unfolding message
in_message error rest = grind (arith, common_steps, append_assoc, in_decimal, in_error)

class_open_unseen : (class : Class) (rest : List ℕ) → untagged_from false (class_open Html class ++ rest) ≡
    untagged_from false rest
class_open_unseen class rest = grind (arith, common_steps)

class_close_unseen : (class : Class) (rest : List ℕ) → untagged_from false (class_close Html class ++ rest) ≡
    untagged_from false rest
class_close_unseen class rest = grind (arith, common_steps)

-- Outside of tags, a page displays a part as its escaped text.
shows_part : (part : Part) (rest : List ℕ) → untagged_from false (written Html part ++ rest) ≡
    escaped (own part) ++ untagged_from false rest
shows_part part rest =
    grind (arith, common_steps, append_assoc, class_open_unseen, untagged_escaped, class_close_unseen, in_message)

-- A page displays all parts as their escaped text.
pub shows : (ps : List Part) → untagged (with_markup Html ps) ≡ escaped (without_markup ps)
shows [] = refl
shows (p ∷ ps) =
    cc (shows_part p (with_markup Html ps), shows ps, flat_map-append escaped_byte (own p) (without_markup ps))

-- ---- the calls that write it

with_markup-append : (format : Format) (ps qs : List Part) → with_markup format (ps ++ qs) ≡
    with_markup format ps ++ with_markup format qs
with_markup-append format [] qs = refl
with_markup-append format (p ∷ ps) qs =
    cc (
      with_markup-append format ps qs,
      append_assoc (written format p) (with_markup format ps)
          (with_markup format qs),
    )

module _ {W : Type 0} (took : W → List ℕ → W → Type 0) where
  -- Writing two lists of parts writes both.
  pub writes_parts : (format : Format) (ps qs : List Part) (w0 w1 w2 : W)
      → WritesInCalls took w0 (with_markup format ps) w1 → WritesInCalls took w1 (with_markup format qs) w2
      → WritesInCalls took w0 (with_markup format (ps ++ qs)) w2
  writes_parts format ps qs w0 w1 w2 first more =
      rw (with_markup-append format ps qs) (writes_both took w0 w1 w2 _ _ first more)

  -- Writing the opening markup, the text and the closing markup writes a part.
  pub writes_in_class : (format : Format) (class : Class) (text : List ℕ) (w0 w1 w2 w3 : W) (before after : List ℕ)
      → (length text == 0) ≡ false → before ≡ class_open format class → after ≡ class_close format class
      → took w0 before w1 → WritesInCalls took w1 (shown format text) w2 → took w2 after w3
      → WritesInCalls took w0 (with_markup format (Own class text ∷ [])) w3
  writes_in_class format class [] w0 w1 w2 w3 before after some opens closes a b d = absurd (true≢false some)
  writes_in_class format class (x ∷ xs) w0 w1 w2 w3 before after some opens closes a b d =
      let open_call = rw opens at a in
      let close_call = rw closes at d in
      writes_both took w0 w3 w3 _ _ (
      writes_both took w0 w1 w3 _ _ (one_call took w0 w1 _ open_call) (
      writes_both took w1 w2 w3 _ _ b (one_call took w2 w3 _ close_call))) (no_calls took w3)

  -- Writing the first line with the markup of the error, and then the rest, writes a token with an error.
  pub writes_error : (format : Format) (error : TokenError) (class : Class) (text line rest : List ℕ) (n : ℕ)
      (w0 w1 w2 w3 w4 : W) → n ≡ first_line text → line ≡ take n text → rest ≡ drop n text
      → WritesInCalls took w0 (error_open format error) w1
      → WritesInCalls took w1 (with_markup format (Own class line ∷ [])) w2
      → WritesInCalls took w2 (error_close format error) w3
      → WritesInCalls took w3 (with_markup format (Own class rest ∷ [])) w4
      → WritesInCalls took w0 (with_markup format (error_parts error class text)) w4
  writes_error format error class text line rest n w0 w1 w2 w3 w4 is front past a b d e =
      let whole = writes_both took w0 w1 w4 _ _ a (
      writes_parts format (Own class line ∷ []) (Close error ∷ Own class rest ∷ []) w1 w2 w4 b
      (writes_both took w2 w3 w4 _ _ d e)) in
      rw (← is, ← front, ← past) whole
