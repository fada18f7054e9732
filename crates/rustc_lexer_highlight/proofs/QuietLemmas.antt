-- A terminal obeys no character of a document.
use Rattle.std.proofs.Common.{◌≡◌, ℕ, ◌-◌, ◌==◌, ◌≤◌, Bool, true, false, ◌&&◌, ◌||◌, not, inl, inr, List, [], ◌∷◌, ◌++◌}
use Rattle.std.proofs.Common.{length, take, drop, get_or, refl, ap, ◌∙◌, arith, append_assoc, length-drop, Option, Some, None}
use Rattle.std.proofs.lemmas.{Bool.{cases_Bool, eqb-true, Decides.{nat_tests}}, Grind.{common_steps}}
use Rattle.std.proofs.lemmas.List.{take_all, Concat.{flat_map-append}}
use Rattle.std.specs.{Char.{is_control}, Str.{chars}}
use Rattle.rustc_lexer.specs.declared.{edition.Edition.{Edition}, token.Token.{Token}}
use Rattle.rustc_lexer.specs.{Document.{byte_order_mark_len, document_tokens, tokens_start}, Tokens.{bound, Partitions}}
use Rattle.rustc_literal_escaper.specs.declared.mode.Mode.{Mode}
use Rattle.rustc_lexer_highlight.specs.declared.{class.Class.{Class, TheVariants.{Comment, Text}}}
use Rattle.rustc_lexer_errors.specs.declared.errors.TokenError.{TokenError, TheVariants.{InLiteral}}
use Rattle.rustc_lexer_highlight.specs.declared.literal.Look.{Look, TheVariants.{Escape, Wrong}}
use Rattle.rustc_lexer_highlight.specs.{Answers.{stretches_of}, Class.{class_of}}
use Rattle.rustc_lexer_errors.specs.TokenError.{token_error}
use Rattle.rustc_lexer_highlight.specs.Highlighted.{document_parts, parts, parts_by, start_parts, token_parts}
use Rattle.rustc_lexer_errors.specs.Literal.{closed_mode}
use Rattle.rustc_lexer_highlight.specs.Literal.{Stretch, look_parts, parts_from}
use Rattle.rustc_lexer_highlight.specs.Part.{Part, Own, Open, Close, Return, displayed, displayed_part, error_parts}
use Rattle.rustc_lexer_highlight.specs.Part.{before_return, first_line, is_cut_line_end, return_part, without_markup}
use Rattle.rustc_lexer_highlight.specs.Screen.{is_layout, is_quiet, seen, seen_char, starts_with_newline, symbol}
use Rattle.rustc_lexer_highlight.proofs.HighlightedLemmas.{without_markup-parts}

-- ---- characters

starts-append : (cs ds : List ℕ) → starts_with_newline cs ≡ true → starts_with_newline (cs ++ ds) ≡ true
starts-append [] ds is = grind (arith, common_steps)
starts-append (c ∷ cs) ds is = is

layout-append : (c : ℕ) (cs ds : List ℕ) → (not (is_control c) || is_layout c cs) ≡ true
    → (not (is_control c) || is_layout c (cs ++ ds)) ≡ true
layout-append c cs ds is = grind (arith, common_steps, starts-append)

quiet-append : (cs ds : List ℕ) → is_quiet cs ≡ true → is_quiet ds ≡ true → is_quiet (cs ++ ds) ≡ true
quiet-append [] ds front back = back
quiet-append (c ∷ cs) ds front back = grind (arith, common_steps, layout-append, quiet-append cs ds)

starts-seen : (cs : List ℕ) → starts_with_newline cs ≡ true → starts_with_newline (seen cs) ≡ true
starts-seen [] is = is
starts-seen (c ∷ cs) is = grind (arith, common_steps, nat_tests)

symbol_printed : (c : ℕ) → is_control (symbol c) ≡ false
symbol_printed c = grind (arith, common_steps, nat_tests)

-- The Booleans state whether a character is a control character, a tab, a newline or a carriage return, and whether a
-- newline follows it before and after the replacement.
kept : (k t n r e f : Bool) → (k && not (t || n || (r && e))) ≡ false → (e ≡ true → f ≡ true)
    → (not k || (t || n || (r && f))) ≡ true
kept k t n r e f other follows = grind (arith, common_steps)

seen_char_quiet : (c : ℕ) (cs : List ℕ)
    → (not (is_control (seen_char c cs)) || is_layout (seen_char c cs) (seen cs)) ≡ true
seen_char_quiet c cs = elim (cases_Bool (is_control c && not (is_layout c cs))) [
  | inl obeyed ↦ rw (obeyed, symbol_printed c) refl
  | inr other ↦ rw other (kept (is_control c) (c == 9) (c == 10) (c == 13) (starts_with_newline cs)
      (starts_with_newline (seen cs)) other (starts-seen cs))
]

seen_quiet : (cs : List ℕ) → is_quiet (seen cs) ≡ true
seen_quiet [] = refl
seen_quiet (c ∷ cs) = rw (seen_char_quiet c cs) (seen_quiet cs)

-- ---- parts

quiet_parts : (ps qs : List Part) → is_quiet (displayed ps) ≡ true → is_quiet (displayed qs) ≡ true
    → is_quiet (displayed (ps ++ qs)) ≡ true
quiet_parts ps qs front back =
    rw (flat_map-append displayed_part ps qs) (quiet-append (displayed ps) (displayed qs) front back)

-- The same for the text of a part before others.
quiet_own : (text : List ℕ) (ps : List Part) → is_quiet (displayed ps) ≡ true
    → is_quiet (seen (chars text) ++ displayed ps) ≡ true
quiet_own text ps rest = quiet-append (seen (chars text)) (displayed ps) (seen_quiet (chars text)) rest

quiet_error : (error : TokenError) (class : Class) (text : List ℕ)
    → is_quiet (displayed (error_parts error class text)) ≡ true
quiet_error error class text =
    quiet_own (take (first_line text) text) (Own class (drop (first_line text) text) ∷ [])
    (quiet_own (drop (first_line text) text) [] refl)

quiet_look : (look : Look) (text : List ℕ) → is_quiet (displayed (look_parts look text)) ≡ true
quiet_look Escape text = quiet_own text [] refl
quiet_look (Wrong error) text = quiet_error (InLiteral error) Text text

quiet_from : (at : ℕ) (left : List ℕ) (ss : List Stretch) → is_quiet (displayed (parts_from at left ss)) ≡ true
quiet_from at left [] = quiet_own left [] refl
quiet_from at left (s ∷ ss) =
    let rest : List ℕ = drop (s.start - at) left in
    let own : List Part = look_parts s.look (take (s.end - s.start) rest) in
    let more : List Part = parts_from s.end (drop (s.end - s.start) rest) ss in
    quiet_own (take (s.start - at) left) (own ++ more)
    (quiet_parts own more (quiet_look s.look (take (s.end - s.start) rest))
    (quiet_from s.end (drop (s.end - s.start) rest) ss))

quiet_by : (error : Option TokenError) (mode : Option Mode) (class : Class) (text : List ℕ)
    → is_quiet (displayed (parts_by error mode class text)) ≡ true
quiet_by (Some error) mode class text = quiet_error error class text
quiet_by None (Some mode) class text = quiet_from 0 text (stretches_of mode text)
quiet_by None None class text = quiet_own text [] refl

-- ---- the carriage return of a cut CRLF

newline-first : (bs : List ℕ) → starts_with_newline (seen (chars (10 ∷ bs))) ≡ true
unfolding chars
newline-first [] = refl
newline-first (b ∷ bs) = refl

-- If the text of some parts starts with a newline, so do the characters that a terminal displays.
displayed-starts : (ps : List Part) (bs : List ℕ) → without_markup ps ≡ 10 ∷ bs
    → starts_with_newline (displayed ps) ≡ true
unfolding chars
displayed-starts [] bs is = absurd (omega (arith, ap length is))
displayed-starts (Own class [] ∷ ps) bs is = displayed-starts ps bs is
displayed-starts (Own class (b ∷ text) ∷ ps) bs is =
    let same : b ≡ 10 = ap (λ (xs : List ℕ). get_or xs 0 0) is in
    rw same (starts-append (seen (chars (10 ∷ text))) (displayed ps) (newline-first text))
displayed-starts (Open error ∷ ps) bs is = displayed-starts ps bs is
displayed-starts (Close error ∷ ps) bs is = displayed-starts ps bs is
displayed-starts (Return ∷ ps) bs is = absurd (omega (arith, ap (λ (xs : List ℕ). get_or xs 0 0) is))

cut-starts : (text next : List ℕ) (ps : List Part) → is_cut_line_end text next ≡ true → without_markup ps ≡ next
    → starts_with_newline (displayed ps) ≡ true
cut-starts text [] ps cut is = grind (arith, common_steps)
cut-starts text (b ∷ bs) ps cut is =
    let same : b ≡ 10 = grind (arith, common_steps, eqb-true) in
    displayed-starts ps bs (is ∙ ap (λ (x : ℕ). x ∷ bs) same)

quiet_return : (text next : List ℕ) (ps : List Part) → without_markup ps ≡ next → is_quiet (displayed ps) ≡ true
    → is_quiet (displayed (return_part text next ++ ps)) ≡ true
quiet_return text next ps is rest = elim (cases_Bool (is_cut_line_end text next)) [
  | inl cut ↦ rw cut (rw (cut-starts text next ps cut is) rest)
  | inr other ↦ rw other rest
]

-- ---- tokens

quiet_tokens : (edition : Edition) (text : List ℕ) (tokens : List Token)
    → length text ≤ bound tokens (length tokens) → is_quiet (displayed (parts edition text tokens)) ≡ true
quiet_tokens edition text [] covers = refl
quiet_tokens edition text (token ∷ tokens) covers =
    let own : List ℕ = take token.len text in
    let next : List ℕ = drop token.len text in
    let more : length next ≤ bound tokens (length tokens) = omega (arith, covers, length-drop token.len text) in
    let is : without_markup (parts edition next tokens) ≡ next =
    without_markup-parts edition next tokens ∙ take_all _ next more in
    let marked : List Part = parts_by (token_error token.kind own edition) (closed_mode token.kind)
    (class_of token.kind own edition) (before_return own next) in
    rw (append_assoc marked (return_part own next) (parts edition next tokens))
    (quiet_parts marked (return_part own next ++ parts edition next tokens)
    (quiet_by (token_error token.kind own edition) (closed_mode token.kind) (class_of token.kind own edition)
    (before_return own next))
    (quiet_return own next (parts edition next tokens) is (quiet_tokens edition next tokens more)))

-- The characters of a document that a terminal displays contain no control character but tabs and line endings.
pub document_quiet : (edition : Edition) (text : List ℕ)
    → Partitions (drop (tokens_start text) text) (document_tokens edition text)
    → is_quiet (displayed (document_parts edition text)) ≡ true
document_quiet edition text cut =
    let start : List ℕ = take (tokens_start text) text in
    let body : List ℕ = drop (tokens_start text) text in
    quiet_parts (start_parts start) (parts edition body (document_tokens edition text))
    (quiet_own (take (byte_order_mark_len start) start) (Own Comment (drop (byte_order_mark_len start) start) ∷ [])
    (quiet_own (drop (byte_order_mark_len start) start) [] refl))
    (quiet_tokens edition body (document_tokens edition text) (omega (arith, cut.whole)))
