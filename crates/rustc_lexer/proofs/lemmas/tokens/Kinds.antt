-- The text of a token matches its kind, and so does the suffix of a literal.
use Rattle.std.proofs.Common.{◌≡◌, ◌↔◌, ◌≤◌, Bool, true, false, List, ℕ, [], ◌∷◌, ◌++◌, codes, drop, take}
use Rattle.std.proofs.Common.{refl, arith, chars, Ok, Option, Result, Some, None, IsSome}
use Rattle.std.proofs.lemmas.{List.{append-nil}, Str.{chars-append, chars-encodes, encode_ascii, encodes-append}}
use Rattle.std.proofs.lemmas.Grind.{common_steps}
use Rattle.std.specs.Str.{encode_utf8_all}
use Rattle.rustc_lexer.specs.{Edition, LiteralKind, RawStrError, Token, TokenKind, Ident, RawIdent, UnknownPrefix}
use Rattle.rustc_lexer.specs.{Literal, Eof}
use Rattle.rustc_lexer.specs.{Answers.{raw_check}, Classes.{bytes, is_ident, Chars, IsText, Utf8}}
use Rattle.rustc_lexer.specs.Language as the
use Rattle.rustc_lexer.specs.Language.{IsTokenBefore}
use Rattle.rustc_lexer.specs.LanguageCalls as call
use Rattle.rustc_lexer.specs.LanguageCalls.{IsRawAnswer}
use Rattle.rustc_lexer.specs.LanguageText as grammar
use Rattle.rustc_lexer.specs.{LanguageText.{AreTokens, IsTokenIn, Mode}, LiteralGrammar.{IsLiteralBefore, IsRaw}}
use Rattle.rustc_lexer.specs.{NumberGrammar.{HasNumberForm}, State.{HasSuffixWithin}, Tables.{symbol_kind, symbols}}
use Rattle.rustc_lexer.specs.{Tokens.{is_faulty, HasSuffix, HasText}, laws.{Choice.{by_symbol}, LanguageFront.{split}}}
use Rattle.rustc_lexer.specs.laws.{LanguageLiterals.{bytes-append}, LanguageRaw.{raw-read}}
use Rattle.rustc_lexer.specs.laws.{LanguageReach.{number-kind, raw-alike}, Language.{lexeme-sound}}
use Rattle.rustc_lexer.specs.{laws.TheAnswers.{the_raw}, model.Lexeme.{first_token}}

-- ---- literals

-- Holds if a literal of this kind is well-formed, and its kind makes no claim about its text.
abbrev IsQuietLiteral : LiteralKind → Type 0
IsQuietLiteral kind = (is_faulty kind ≡ false) × ((n : ℕ) (text : Utf8) → HasText (Literal kind n) text)

number-quiet : {next w : Chars} {kind : LiteralKind} → HasNumberForm next kind w → IsQuietLiteral kind
number-quiet is =
    number-kind IsQuietLiteral (λ base empty. (refl, λ n text. tt)) (λ base empty. (refl, λ n text. tt)) is

-- A literal that can have a suffix is well-formed.
suffixed : {next w : Chars} {kind : LiteralKind} {may : Bool} → IsLiteralBefore next kind may w → may ≡ true
    → is_faulty kind ≡ false
suffixed w0 w1 = grind (arith, common_steps, number-quiet)

-- The check of raw strings accepts exactly the well-formed raw strings.
accepted : {rest cs w : Chars} {o : Option ℕ} {p : ℕ} {r : Result Unit RawStrError} → IsRaw rest o w
    → IsRawAnswer p cs r → r ≡ Ok tt → cs ≡ w ++ rest → IsSome o
accepted w0 w1 w2 w3 = grind (arith, common_steps, raw-read)

accepts : {rest w : Chars} (p : ℕ) (o : Option ℕ) → IsRaw rest o w → IsSome o → IsRawAnswer p (w ++ rest) (Ok tt)
accepts p (Some n) is some = call.good is
accepts p None is some = absurd (cc)

checked : {next rest w : Chars} {o : Option ℕ} → IsRaw next o w → (o ≡ None → rest ≡ []) → (p : ℕ) (text : Utf8)
    → drop p (chars text) ≡ w ++ rest → (raw_check text p ≡ Ok tt) ↔ IsSome o
checked {rest = rest} {o = o} is end p text e =
    grind (
      arith,
      common_steps,
      (the_raw text p).only tt (Ok tt),
      raw-alike is rest (λ none over. end none),
      accepted,
      accepts,
    )

-- The text of a literal matches its kind.
literal-text : {next w : Chars} {kind : LiteralKind} {may : Bool} → IsLiteralBefore next kind may w → (rest : Chars)
    → (may ≡ false → rest ≡ []) → (n : ℕ) (text : Utf8) → chars text ≡ w ++ rest → HasText (Literal kind n) text
literal-text w0 rest w2 n text w5 = grind (arith, common_steps, checked, number-quiet)

-- ---- one token

-- Holds if the literal meets the claims of the grammar about its suffix, which starts at this offset, and about its
-- text.
record SaysOfLiteral (kind : LiteralKind) (suffix_start : ℕ) (w : Chars) : Type 0 where
  within : suffix_start ≤ bytes w
  ends : is_faulty kind ≡ true → suffix_start ≡ bytes w
  text : (text : Utf8) → chars text ≡ w → HasText (Literal kind suffix_start) text

abbrev Says : TokenKind → Chars → Type 0
Says Ident w = is_ident w ≡ true
Says UnknownPrefix w = is_ident w ≡ true
Says RawIdent w = (word : Chars) × (w ≡ codes "r#" ++ word) × (is_ident word ≡ true)
Says (Literal kind suffix_start) w = SaysOfLiteral kind suffix_start w
Says Eof w = w ≡ []
Says kind w = Unit {0}

abbrev is_quiet : TokenKind → Bool
is_quiet Ident = false
is_quiet UnknownPrefix = false
is_quiet RawIdent = false
is_quiet (Literal kind suffix_start) = false
is_quiet Eof = false
is_quiet kind = true

quiet : (kind : TokenKind) (w : Chars) → is_quiet kind ≡ true → Says kind w
quiet kind w e = grind (arith, common_steps)

says : {next w : Chars} {kind : TokenKind} → IsTokenBefore next kind w → Says kind w
says (the.end none) = refl
says (the.ident is stop end) = is
says (the.unknown_prefix is end new) = is
says (the.raw_ident {w} is stop) = (w, refl, is)
says (the.literal {w = w} is) =
    record {
      within = omega arith;
      ends = λ bad. refl;
      text = λ text e. literal-text is [] (λ f. refl) (bytes w) text (rw append-nil e);
    }
says (the.literal_with {w = w} {suffix = suffix} is suffix_is) =
    grind (arith, common_steps, bytes-append, suffixed, literal-text)
says (the.symbol {c} is) = quiet (symbol_kind c) (c ∷ []) (by_symbol is_quiet symbols c refl refl)
says p = tt

says-in : {edition : Edition} {next w : Chars} {kind : TokenKind} → IsTokenIn edition next kind w → Says kind w
says-in w0 = grind (arith, common_steps, says)

suffix : (kind : TokenKind) (w : Chars) → Says kind w → HasSuffix record { kind = kind; len = bytes w }
suffix kind w w2 = grind (arith, common_steps)

-- The suffix of the first token of any text starts within the token.
pub first_token-suffix : (text : List ℕ) → HasSuffixWithin (first_token text)
unfolding first_token
first_token-suffix text = (suffix _ _ (says (lexeme-sound (chars text)))).0

-- ---- the first token of a text

hash_r : encode_utf8_all (codes "r#") ≡ codes "r#"
hash_r = rw (encode_ascii 114 (omega arith), encode_ascii 35 (omega arith)) refl

chars_r : chars (codes "r#") ≡ codes "r#"
chars_r = rw hash_r at (chars-encodes (codes "r#") refl)

has_text : (kind : TokenKind) (w : Chars) (text : Utf8) → Says kind w → text ≡ encode_utf8_all w → chars text ≡ w
    → HasText kind text
has_text Ident w text said e f = rw f said
has_text RawIdent w text (word, is_raw, is) e f =
    let cut : text ≡ codes "r#" ++ encode_utf8_all word =
    cc (encodes-append (codes "r#") word, hash_r) in
    let own : chars (encode_utf8_all word) ≡ word =
    cc (chars_r, chars-append (codes "r#") (encode_utf8_all word) (codes "r#", (refl, hash_r))) in
    (encode_utf8_all word, cut, rw own is)
has_text (Literal kind suffix_start) w text said e f = said.text text f
has_text Eof w text said e f = rw (e, said) refl
has_text kind w text said e f = tt

-- Holds if the text of the token matches its kind, and so does its suffix.
pub record IsSaid (whole : List ℕ) (token : Token) : Type 0 where
  pub text : HasText token.kind (take token.len whole)
  pub suffix : HasSuffix token

pub first-said : {mode : Mode} {cs : Chars} {token : Token} {tokens : List Token} → AreTokens mode cs (token ∷ tokens)
    → (text : List ℕ) → IsText text → chars text ≡ cs → IsSaid text token
first-said (grammar.something {mode} {kind} {c} {w} {next} p free rest) text is e =
    grind (arith, common_steps, split text (c ∷ w) next is e, has_text, says-in, suffix)
first-said (grammar.frontmatter_first body is_opening is_end rest) text is e =
    record { text = tt; suffix = (omega arith, tt) }
