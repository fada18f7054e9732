-- The tokens of a document are the tokens of its head and the tokens of its body.
use Rattle.std.proofs.lemmas.Grind.{common_steps}
use Rattle.std.proofs.Common.{◌≡◌, ℕ, zero, suc, ◌+◌, ◌-◌, ◌<◌, Bool, not, true, false, List, [], ◌∷◌, ◌++◌}
use Rattle.std.proofs.Common.{length, take, drop, refl, ap, arith, length-drop, drop-drop}
use Rattle.std.proofs.Common.{take-append-drop, length-append, codes, get_or, IsCharBoundary}
use Rattle.std.proofs.Common.{chars, Option, None, Some}
use Rattle.std.specs.Option.{unwrap_or}
use Rattle.std.proofs.{lemmas.Bool.{and_parts, eqb-true, not-true}, Math.Seq.{get_or-append_seam}}
use Rattle.std.proofs.lemmas.Str.{IsCharBoundary-from_rest, IsUtf8-drop}
use Rattle.std.proofs.lemmas.Str.{length-le-encodes, IsCharBoundary-before_ascii, IsCharBoundary-end}
use Rattle.std.proofs.lemmas.Str.{IsCharBoundary-start}
use Rattle.rustc_lexer.specs.{Edition, Token, TokenKind, Whitespace, Classes.{is_whitespace, IsText, bytes}}
use Rattle.rustc_lexer.specs.{Document.{byte_order_mark_len, tokens_start}, model.Document.{front_tokens}}
use Rattle.rustc_lexer.specs.Answers.{shebang}
use Rattle.rustc_lexer.specs.Language as the
use Rattle.rustc_lexer.specs.LanguageCalls as calls
use Rattle.rustc_lexer.specs.{LanguageCalls.{IsLineBefore, IsShebang}, laws.TheAnswers.{the_shebang}}
use Rattle.rustc_lexer.specs.Language.{IsTokenBefore}
use Rattle.rustc_lexer.specs.LanguageText as grammar
use Rattle.rustc_lexer.specs.LanguageText.{AreTokens, IsTokenIn, Mode, is_source, mode_after, mode_edition, part}
use Rattle.rustc_lexer.specs.LanguageText.{source}
use Rattle.rustc_lexer.specs.{FrontmatterGrammar.{OpensNone}, Tables.{symbols}, laws.Choice.{by_either, by_symbol}}
use Rattle.rustc_lexer.specs.laws.{LanguageFrontmatter.{opens-none}, LanguageIn.{oldest}}
use Rattle.rustc_lexer.specs.laws.{LanguageTokens.{tokens-are, tokens-read}, Frontmatter.{frontmatter-cut}}
use Rattle.rustc_lexer.specs.laws.{LanguageRuns.{run-stops}, LanguageComments.{space-sound}}
use Rattle.rustc_lexer.specs.laws.Past.{past-zero, chars-past, length-past, past-drop, IsUtf8-past}
use Rattle.rustc_lexer.specs.{laws.Tokens.{tokens-cons}, model.Frontmatter.{frontmatter, opens, spaces_len}}
use Rattle.rustc_lexer.specs.model.{Lexeme.{symbol_kind}, Scan.{bytes_of, next_is, past, run_len}, Taking.{token_at}}
use Rattle.rustc_lexer.specs.model.Tokens.{read_tokens}
use Rattle.rustc_lexer.proofs.lemmas.tokens.Shebang.{mark_boundary}

-- ---- tokens after which a frontmatter is still allowed

abbrev stays : TokenKind → Bool
stays Whitespace = true
stays kind = false

solid-after : (edition : Edition) (kind : TokenKind) → stays kind ≡ false → mode_after (source edition) kind ≡
    part edition
solid-after edition kind w2 = grind (arith, common_steps)

-- A token with characters that does not start with whitespace is not such a token.
solid : {next u : List ℕ} {kind : TokenKind} → IsTokenBefore next kind u → next_is is_whitespace u ≡ false
    → 0 < length u → stays kind ≡ false
solid (the.end none) out some = absurd (omega arith)
solid (the.whitespace {c} {w} all stop) out some = absurd (cc ((and_parts (is_whitespace c) _ all).0))
solid (the.symbol {c} is) out some =
    not-true (stays (symbol_kind c)) (by_symbol (λ (kind : TokenKind). not (stays kind)) symbols c refl refl)
solid p out some = refl

solid-in : {edition : Edition} {next u : List ℕ} {kind : TokenKind} → IsTokenIn edition next kind u
    → next_is is_whitespace u ≡ false
    → 0 < length u → stays kind ≡ false
solid-in w0 out some = grind (arith, common_steps, solid)

-- Whitespace is such a token.
space-after : (mode : Mode) → mode_after mode Whitespace ≡ mode
space-after mode = grind (arith, common_steps)

-- ---- the tokens of a document

-- Returns the token of whitespace with this length, or no token for length 0.
abbrev space_before : ℕ → List Token
space_before zero = []
space_before (suc n) = record { kind = Whitespace; len = suc n } ∷ []

module _ (edition : Edition) where
  -- If a frontmatter opens, it is the first token, and the tokens of a fragment follow it.
  pub with-front : (text : List ℕ) → IsText text → opens (chars text) ≡ true → read_tokens (source edition) text ≡
      frontmatter text ∷ read_tokens (part edition) (drop (frontmatter text).len text)
  unfolding frontmatter
  with-front text is e =
      let some : 0 < length text = (let cut = frontmatter-cut text is.utf8 e in let i = cut.inside in
      let m = cut.not_empty in omega arith) in
      let at : token_at (source edition) text ≡ frontmatter text = rw e refl in
      rw at at (tokens-cons (source edition) text is some)

  -- If no frontmatter opens and no whitespace is in front, the tokens are the tokens of a fragment.
  as-source : {cs : List ℕ} {tokens : List Token} → AreTokens (part edition) cs tokens → OpensNone cs
      → next_is is_whitespace cs ≡ false
      → AreTokens (source edition) cs tokens
  as-source grammar.nothing none out = grammar.nothing
  as-source (grammar.something {kind} {next} {tokens} p free rest) none out =
      grammar.something p (λ e. none) (rw (solid-after edition kind (solid-in p out (omega arith))) rest)

  without-space : (text : List ℕ) → IsText text → opens (chars text) ≡ false → next_is is_whitespace (chars text) ≡
      false → read_tokens (source edition) text ≡ read_tokens (part edition) text
  without-space text is none out =
      tokens-read (as-source (tokens-are text (part edition) is) (opens-none (chars text) none) out) text is refl

  -- Whitespace and the tokens after it.
  module _ (text tail : List ℕ) (is : IsText text) (tail_is : tail ≡ past (spaces_len (chars text)) text) where
    abbrev size : ℕ
    size = length text - length tail

    size_is : bytes_of (spaces_len (chars text)) (chars text) ≡ size
    size_is = let long = length-past (spaces_len (chars text)) text is.utf8 in omega (arith, long, ap length tail_is)

    tail_drop : tail ≡ drop size text
    tail_drop = cc (past-drop (spaces_len (chars text)) text is.utf8, size_is)

    tail_text : IsText tail
    tail_text = record {
      utf8 = rw tail_is (IsUtf8-past (spaces_len (chars text)) text is.utf8);
      fits = let f = is.fits in omega (arith, ap length tail_drop, length-drop size text);
    }

    left : chars tail ≡ drop (spaces_len (chars text)) (chars text)
    left = cc (chars-past (spaces_len (chars text)) text is.utf8)

    spaced : (mode : Mode) → (is_source mode ≡ true → opens (chars text) ≡ false)
        → read_tokens mode text ≡ space_before size ++ read_tokens mode tail
    spaced mode none = by_chars (chars text) refl
      where
        bare : spaces_len (chars text) ≡ 0 → read_tokens mode text ≡ space_before size ++ read_tokens mode tail
        bare zero_len =
            let same : tail ≡ text = cc (past-zero text is.utf8) in
            let no_size : size ≡ 0 = omega (arith, ap length same) in rw (no_size, same) refl

        one : (n : ℕ) (tokens : List Token) → 0 < n → record { kind = Whitespace; len = n } ∷ tokens ≡
            space_before n ++ tokens
        one n tokens some = grind (arith, common_steps)

        by_chars : (cs : List ℕ) → chars text ≡ cs → read_tokens mode text ≡ space_before size ++ read_tokens mode tail
        by_chars [] e = bare (ap spaces_len e)
        by_chars (c ∷ s) e = by_either (is_whitespace c)
            (λ white.
            let n : ℕ = run_len is_whitespace s in
            let long : spaces_len (chars text) ≡ suc n = rw (e, white) refl in
            let whole : chars text ≡ c ∷ take n s ++ drop n s = cc (take-append-drop n s) in
            let len : bytes (c ∷ take n s) ≡ size = rw (long, e) at size_is in
            let behind : AreTokens (mode_after mode Whitespace) (drop n s) (read_tokens mode tail) =
            rw (space-after mode) (rw (left, long, e) at (tokens-are tail mode tail_text)) in
            cc (
              tokens-read (grammar.something (grammar.kept (oldest (mode_edition mode)) (space-sound c white s))
                  (λ y. rw whole at (opens-none (chars text) (none y))) behind) text is whole,
              one size (read_tokens mode tail) (omega (arith, len, length-le-encodes (c ∷ take n s))),
            ))
            (λ out. bare (rw (e, out) refl))

    -- If no frontmatter opens, with or without whitespace before, the tokens are the tokens of a fragment.
    pub without-front : opens (chars text) ≡ false → opens (chars tail) ≡ false → read_tokens (source edition) text ≡
        read_tokens (part edition) text
    without-front none none_past =
        cc (
          spaced (source edition) (λ e. none),
          without-space tail tail_text none_past (rw left (run-stops is_whitespace (chars text))),
          spaced (part edition) (λ e. absurd (cc)),
        )

    -- If a frontmatter opens after whitespace, the tokens are the whitespace, the frontmatter, and the tokens of a
    -- fragment.
    pub with-spaced : opens (chars text) ≡ false → opens (chars tail) ≡ true
        → read_tokens (source edition) text ≡ front_tokens size (Some (frontmatter tail)) ++ read_tokens (part edition)
        (drop (size + (frontmatter tail).len) text)
    with-spaced none opened =
        cc (spaced (source edition) (λ e. none), with-front tail tail_text opened, behind, both size _)
      where
        behind : drop (frontmatter tail).len tail ≡ drop (size + (frontmatter tail).len) text
        behind = cc (tail_drop, drop-drop (frontmatter tail).len size text)

        both : (n : ℕ) (tokens : List Token) → space_before n ++ (frontmatter tail ∷ tokens) ≡
            front_tokens n (Some (frontmatter tail)) ++ tokens
        both n tokens = grind (arith, common_steps)

-- ---- the end of a shebang line

seam : (xs ys : List ℕ) → (0 < length ys → get_or ys 0 0 < 128) → IsCharBoundary (xs ++ ys) (length xs)
seam xs [] small =
    let same : length xs ≡ length (xs ++ []) = omega (arith, length-append xs []) in
    rw same (IsCharBoundary-end (xs ++ []))
seam xs (y ∷ ys) small =
    IsCharBoundary-before_ascii (xs ++ (y ∷ ys)) (length xs) (omega (arith, length-append xs (y ∷ ys)))
    (rw (get_or-append_seam xs y ys 0) (small (omega arith)))

line-boundary : (text : List ℕ) → IsText text → IsCharBoundary text (unwrap_or (shebang text) 0)
line-boundary text is = by_answer (shebang text) (((the_shebang text).only is (shebang text)).1 refl)
  where
    by_line : (w next : List ℕ) → text ≡ codes "#!" ++ (w ++ next) → IsLineBefore next w
        → IsCharBoundary text (length (codes "#!" ++ w))
    by_line w next whole line =
        rw whole (seam (codes "#!" ++ w) next (small line))
      where
        small : IsLineBefore next w → 0 < length next → get_or next 0 0 < 128
        small w0 left = grind (arith, common_steps, eqb-true, and_parts)

    by_answer : (o : Option ℕ) → IsShebang text o → IsCharBoundary text (unwrap_or o 0)
    by_answer (Some k) (calls.shebang w next whole none line) = by_line w next whole line
    by_answer None (calls.none all) = IsCharBoundary-start text is.utf8

pub start-boundary : (text : List ℕ) → IsText text → IsCharBoundary text (tokens_start text)
start-boundary text is =
    let after : IsText (drop (byte_order_mark_len text) text) = record {
      utf8 = IsUtf8-drop text (byte_order_mark_len text) is.utf8 (mark_boundary text is.utf8);
      fits = omega (arith, is.fits, length-drop (byte_order_mark_len text) text);
    } in
    IsCharBoundary-from_rest text _ _ (mark_boundary text is.utf8).0 (line-boundary _ after)
