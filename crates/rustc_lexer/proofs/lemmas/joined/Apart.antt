-- Whitespace separates tokens: a token that is not open does not change before whitespace.
use Rattle.std.proofs.Common.{◌≡◌, ℕ, ◌<◌, ◌==◌, ◌&&◌, not, codes, Bool, true, false, true≢false, List, [], ◌∷◌, ◌++◌}
use Rattle.std.proofs.Common.{length, refl, sym, ap, ◌∙◌, arith, Option, is_some}
use Rattle.std.proofs.lemmas.Bool.{and_parts, false_from_ne_true}
use Rattle.std.specs.List.{list_all}
use Rattle.std.proofs.lemmas.Grind.{common_steps}
use Rattle.unicode_ident.proofs.Computing.{unicode_ident}
use Rattle.rustc_lexer.specs.{LiteralKind, TokenKind, Whitespace, LineComment}
use Rattle.rustc_lexer.specs.{Edition}
use Rattle.rustc_lexer.specs.Classes.{is_among, is_whitespace, is_id_start, is_id_continue, is_word_continue}
use Rattle.rustc_lexer.specs.Classes.{ends_prefix, begins_ident_after, NextIs, NextIsNot, is_inline}
use Rattle.rustc_lexer.specs.Tables.{is_emoji, emoji_ranges}
use Rattle.rustc_lexer.specs.Language as the
use Rattle.rustc_lexer.specs.Language.{IsTokenBefore, begins_prefixed}
use Rattle.rustc_lexer.specs.LiteralGrammar as lit
use Rattle.rustc_lexer.specs.LiteralGrammar.{IsDoubleQuoted, IsSingleQuoted, IsRaw, IsLiteralBefore, IsSuffixBefore}
use Rattle.rustc_lexer.specs.{NumberGrammar.{IsNumberBefore}, Tokens.{is_faulty}, Joined.{is_malformed}}
use Rattle.rustc_lexer.specs.LanguageText.{IsTokenIn, kept, pound, ident, lifetime, lifetime_r}
use Rattle.rustc_lexer.specs.model.{Number.{begins_fraction}, Scan.{begins, next_is}}
use Rattle.rustc_lexer.specs.laws.{LanguageLiterals.{number-digit}, LanguageReach.{raw-alike}}
use Rattle.rustc_lexer.specs.laws.{LanguageRuns.{IsSolid, solid-by}, NumberLongest.{fraction-solid, number-before}}

-- ---- whitespace is in no other class

abbrev pub is_solid : ℕ → Bool
is_solid c = not (is_whitespace c)

word-solid : IsSolid is_word_continue
unfolding unicode_ident is_emoji emoji_ranges
word-solid = solid-by is_word_continue refl

continue-solid : IsSolid is_id_continue
unfolding unicode_ident
continue-solid = solid-by is_id_continue refl

start-solid : IsSolid is_id_start
unfolding unicode_ident
start-solid = solid-by is_id_start refl

-- ---- the change of the text after a token

-- Holds if, after a common prefix, the first text ends or continues with whitespace, and the second continues with
-- whitespace.
pub data Changes : List ℕ → List ℕ → Type 0 where
  here : {before after : List ℕ} → NextIsNot is_solid before → NextIs is_whitespace after → Changes before after
  past : (c : ℕ) {next other : List ℕ} → Changes next other → Changes (c ∷ next) (c ∷ other)

pub changes-past : (w : List ℕ) {next other : List ℕ} → Changes next other → Changes (w ++ next) (w ++ other)
changes-past [] ch = ch
changes-past (c ∷ w) ch = past c (changes-past w ch)

solid-space : (after : List ℕ) → NextIs is_whitespace after → NextIsNot is_solid after
solid-space after w1 = grind (arith, common_steps)

-- A class without whitespace is not affected by the change.
at-end : (p : ℕ → Bool) → IsSolid p → (before : List ℕ) → NextIsNot is_solid before → next_is p before ≡ false
at-end p w1 before w3 = grind (arith, common_steps)

same : {p : ℕ → Bool} → IsSolid p → {next other : List ℕ} → Changes next other → next_is p other ≡ next_is p next
same {p} out (here {before} {after} stops spaced) = at-end p out after (solid-space after spaced)
    ∙ sym (at-end p out before stops)
same out (past c ch) = refl

-- Neither are characters other than whitespace.
begins-solid : (c : ℕ) (cs s : List ℕ) → is_solid c ≡ true → NextIsNot is_solid s → begins (c ∷ cs) s ≡ false
begins-solid c cs s w3 w4 = grind (arith, common_steps, false_from_ne_true)

begins-same : (cs : List ℕ) → list_all is_solid cs ≡ true → {next other : List ℕ} → Changes next other
    → begins cs other ≡ begins cs next
begins-same [] solid ch = refl
begins-same (c ∷ cs) solid (here {before} {after} stops spaced) =
    grind (arith, common_steps, and_parts, begins-solid, solid-space)
begins-same (c ∷ cs) solid (past d ch) =
    ap (λ (b : Bool). (d == c) && b) (begins-same cs (and_parts (is_solid c) (list_all is_solid cs) solid).1 ch)

same-begins : (cs w : List ℕ) → list_all is_solid cs ≡ true → {next other : List ℕ} → Changes next other
    → begins cs (w ++ other) ≡ begins cs (w ++ next)
same-begins cs w solid ch = begins-same cs solid (changes-past w ch)

ident-same : (cs : List ℕ) → list_all is_solid cs ≡ true → {next other : List ℕ} → Changes next other
    → begins_ident_after cs other ≡ begins_ident_after cs next
ident-same [] solid ch = same start-solid ch
ident-same (c ∷ cs) solid (here {before} {after} stops spaced) =
    grind (arith, common_steps, and_parts, begins-solid, solid-space)
ident-same (c ∷ cs) solid (past d ch) =
    grind (arith, common_steps, and_parts, ident-same cs (and_parts (is_solid c) (list_all is_solid cs) solid).1 ch)

same-ident : (cs w : List ℕ) → list_all is_solid cs ≡ true → {next other : List ℕ} → Changes next other
    → begins_ident_after cs (w ++ other) ≡ begins_ident_after cs (w ++ next)
same-ident cs w solid ch = ident-same cs solid (changes-past w ch)

-- ---- numbers

-- A fraction starts in one text exactly if it starts in the other.
fraction-same : {next other : List ℕ} → Changes next other → begins_fraction other ≡ begins_fraction next
fraction-same {next} {other} (here stops spaced) =
    rw (begins-solid 46 [] next refl stops, begins-solid 46 [] other refl (solid-space other spaced)) refl
fraction-same (past c ch) = ap (λ (b : Bool). ((c == 46) && true) && not b) (same fraction-solid ch)

number-apart : {next other : List ℕ} {kind : LiteralKind} {w : List ℕ} → IsNumberBefore next kind w
    → Changes next other → IsNumberBefore other kind w
number-apart {other = other} is ch =
    let d = number-digit is in
    rw d.whole (number-before d.first d.rest d.digit (rw d.whole at is) other (λ p solid. same solid ch)
    (λ base int. fraction-same ch))

-- ---- literals

prefix-solid : IsSolid ends_prefix
prefix-solid = solid-by ends_prefix refl

double-apart : {next : List ℕ} {t : Bool} {w : List ℕ} → IsDoubleQuoted next t w → t ≡ true → (other : List ℕ)
    → IsDoubleQuoted other t w
double-apart w0 t other = grind (arith, common_steps, lit.closed)

single-apart : {next other : List ℕ} {t : Bool} {w : List ℕ} → IsSingleQuoted next t w → t ≡ true
    → Changes next other → IsSingleQuoted other t w
single-apart (lit.one out) t ch = lit.one out
single-apart (lit.closed {w} q f) t ch = lit.closed q (same-begins (codes "''") w refl ch ∙ f)
single-apart (lit.closed_line q) t ch = lit.closed_line q
single-apart is t ch = absurd (cc t)

raw-apart : {next : List ℕ} {n : Option ℕ} {w : List ℕ} → IsRaw next n w → is_some n ≡ true → (other : List ℕ)
    → IsRaw other n w
raw-apart is some other = raw-alike is other (λ none. absurd (true≢false (sym some ∙ ap is_some none)))

suffix-apart : {next other w : List ℕ} → IsSuffixBefore next w → Changes next other → IsSuffixBefore other w
suffix-apart (lit.none stop) ch = lit.none (same start-solid ch ∙ stop)
suffix-apart (lit.some is stop) ch = lit.some is (same continue-solid ch ∙ stop)

-- A literal that is not malformed is a literal before the changed text, if numbers and characters are.
literal-by : {next other : List ℕ} {kind : LiteralKind} {takes : Bool} {w : List ℕ}
    → ((kind : LiteralKind) (w : List ℕ) → IsNumberBefore next kind w → IsNumberBefore other kind w)
    → ((t : Bool) (w : List ℕ) → IsSingleQuoted next t w → t ≡ true → IsSingleQuoted other t w)
    → IsLiteralBefore next kind takes w → is_faulty kind ≡ false → IsLiteralBefore other kind takes w
literal-by {next} {other} number single w0 good =
    grind (
      arith,
      common_steps,
      number,
      single,
      double-apart,
      raw-apart,
      lit.number,
      lit.str,
      lit.byte_str,
      lit.c_str,
      lit.byte_char,
      lit.char_of_one,
      lit.char,
      lit.char_of_name,
      lit.raw_str,
      lit.raw_byte_str,
      lit.raw_c_str,
    )

literal-apart : {next other : List ℕ} {kind : LiteralKind} {takes : Bool} {w : List ℕ}
    → IsLiteralBefore next kind takes w → is_faulty kind ≡ false → Changes next other
    → IsLiteralBefore other kind takes w
literal-apart is good ch = literal-by (λ kind w n. number-apart n ch) (λ t w q e. single-apart q e ch) is good

-- ---- tokens

abbrev pub is_line : TokenKind → Bool
is_line (LineComment style) = true
is_line kind = false

-- Holds if the change meets the conditions of this kind: it does not add whitespace to a whitespace token, and a line
-- comment still ends.
pub record Goes (kind : TokenKind) (next other : List ℕ) : Type 0 where
  pub space : kind ≡ Whitespace → NextIsNot is_whitespace next → NextIsNot is_whitespace other
  pub line : is_line kind ≡ true → NextIsNot is_inline next → NextIsNot is_inline other

prefixed-apart : (w : List ℕ) {next other : List ℕ} → Changes next other → begins_prefixed (w ++ other) ≡
    begins_prefixed (w ++ next)
prefixed-apart w ch = rw (
  same-begins (codes "r\"") w refl ch,
  same-begins (codes "r#") w refl ch,
  same-begins (codes "b'") w refl ch,
  same-begins (codes "b\"") w refl ch,
  same-begins (codes "br\"") w refl ch,
  same-begins (codes "br#") w refl ch,
  same-begins (codes "c\"") w refl ch,
  same-begins (codes "cr\"") w refl ch,
  same-begins (codes "cr#") w refl ch,
  same-ident (codes "k#") w refl ch,
) refl

pub token-apart : {next other : List ℕ} {kind : TokenKind} {w : List ℕ} → IsTokenBefore next kind w → 0 < length w
    → is_malformed kind ≡ false → Changes next other → Goes kind next other
    → IsTokenBefore other kind w
token-apart (the.end none) some good ch go = absurd (omega arith)
token-apart (the.whitespace all stop) some good ch go = the.whitespace all (go.space refl stop)
token-apart (the.line_comment all stop is) some good ch go = the.line_comment all (go.line refl stop) is
token-apart (the.block_comment p is) some good ch go = the.block_comment p is
token-apart (the.open_comment none never is) some good ch go = absurd (true≢false good)
token-apart (the.ident is stop none) some good ch go =
    the.ident is (same word-solid ch ∙ stop) (same prefix-solid ch ∙ none)
token-apart (the.unknown_prefix {w} is goes free) some good ch go =
    the.unknown_prefix is (same prefix-solid ch ∙ goes) (prefixed-apart w ch ∙ free)
token-apart (the.invalid_ident start all wrong stop) some good ch go =
    the.invalid_ident start all wrong (same word-solid ch ∙ stop)
token-apart (the.raw_ident is stop) some good ch go =
    the.raw_ident is (same continue-solid ch ∙ stop)
token-apart (the.forced_keyword is stop) some good ch go =
    the.forced_keyword is (same continue-solid ch ∙ stop)
token-apart (the.lifetime start all stop quote hash) some good ch go =
    the.lifetime start all (same word-solid ch ∙ stop)
    (same (solid-by (is_among (codes "'")) refl) ch ∙ quote)
    (λ goes. hash (sym (same (solid-by (is_among (codes "#")) refl) ch) ∙ goes))
token-apart (the.unknown_prefix_lifetime {c} {w} start all hash free) some good ch go =
    the.unknown_prefix_lifetime start all (same (solid-by (is_among (codes "#")) refl) ch ∙ hash)
    (same-ident (codes "r#") (c ∷ w) refl ch ∙ free)
token-apart (the.raw_lifetime is stop) some good ch go =
    the.raw_lifetime is (same continue-solid ch ∙ stop)
token-apart (the.literal is) some good ch go = the.literal (literal-apart is good ch)
token-apart (the.literal_with {suffix = suffix} is suffix_is) some good ch go =
    the.literal_with (literal-apart is good (changes-past suffix ch)) (suffix-apart suffix_is ch)
token-apart (the.slash stop) some good ch go =
    the.slash (same (solid-by (is_among (codes "/*")) refl) ch ∙ stop)
token-apart (the.pound stop) some good ch go =
    the.pound (same (solid-by (is_among (codes "\"#")) refl) ch ∙ stop)
token-apart (the.guarded_prefix is) some good ch go = the.guarded_prefix is
token-apart (the.symbol is) some good ch go = the.symbol is

-- Every other kind has no condition.
goes-free : {kind : TokenKind} {next other : List ℕ} → (kind ≡ Whitespace → ⊥) → is_line kind ≡ false
    → Goes kind next other
goes-free no_space no_line = grind (arith, common_steps)

pub in-apart : {edition : Edition} {next other : List ℕ} {kind : TokenKind} {w : List ℕ} → IsTokenIn edition next kind w
    → 0 < length w → is_malformed kind ≡ false → Changes next other → Goes kind next other
    → IsTokenIn edition other kind w
in-apart (kept le p) some good ch go = kept le (token-apart p some good ch go)
in-apart (pound lt) some good ch go = pound lt
in-apart (ident lt p) some good ch go =
    ident lt (token-apart p some refl ch (goes-free (λ e. cc e) refl))
in-apart (lifetime lt p) some good ch go =
    lifetime lt (token-apart p some refl ch (goes-free (λ e. cc e) refl))
in-apart (lifetime_r lt goes) some good ch go = lifetime_r lt (same-ident (codes "#") [] refl ch ∙ goes)
