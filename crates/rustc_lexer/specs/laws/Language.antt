-- The scanner at the front of a text reads exactly the tokens of the language; and how far a token looks ahead.
use Rattle.std.proofs.Common.{◌≡◌, ℕ, ◌==◌, Bool, true, false, List, [], ◌∷◌, ◌++◌, length, take, drop, codes, refl}
use Rattle.std.proofs.Common.{sym, ap, ◌∙◌, subst, take-append-drop, arith, bytes_eq}
use Rattle.std.proofs.{Math.Seq.{take-append_seam}, lemmas.Bool.{and_parts, or_parts, or_from, eqb-true}}
use Rattle.std.proofs.lemmas.List.{append-nil}
use Rattle.std.specs.Char.{is_ascii_digit}
use Rattle.std.proofs.lemmas.Grind.{common_steps}
use Rattle.rustc_lexer.specs.declared.lexemes.family.Family.{Family}
use Rattle.rustc_lexer.specs.declared.lexemes.family.Family.TheVariants.{Slash, Space, Word, Number, Quote, Str, Emoji}
use Rattle.rustc_lexer.specs.declared.lexemes.family.Family.TheVariants.{Hash, Symbol}
use Rattle.rustc_lexer.specs.declared.lexemes.raw.RawPrefix.TheVariants.{Br, Cr}
use Rattle.rustc_lexer.specs.{LiteralKind, TokenKind}
use Rattle.rustc_lexer.specs.Classes.{is_whitespace, is_id_start, NextIs}
use Rattle.rustc_lexer.specs.Tables.{is_emoji}
use Rattle.rustc_lexer.specs.model.Ident.{ident_or_unknown_prefix}
use Rattle.rustc_lexer.specs.laws.Choice.{by_test}
use Rattle.rustc_lexer.specs.laws.LanguageComments.{space-sound, space-read, hash-sound, pound-read, guarded-read}
use Rattle.rustc_lexer.specs.laws.LanguageComments.{symbol-read, slash-sound, slash-read, line-read, block-read}
use Rattle.rustc_lexer.specs.laws.LanguageComments.{open-read}
use Rattle.rustc_lexer.specs.laws.LanguageLifetimes.{quote-sound, lifetime-read, prefix-read, raw_lifetime-read}
use Rattle.rustc_lexer.specs.laws.LanguageLifetimes.{char-reads, one-reads, name-reads}
use Rattle.rustc_lexer.specs.laws.LanguageLiterals.{str-sound, byte-sound, byte_str-sound, c_str-sound, raw_str-sound}
use Rattle.rustc_lexer.specs.laws.LanguageLiterals.{raw_byte_str-sound, raw_c_str-sound, number-sound, ReadsLiteral}
use Rattle.rustc_lexer.specs.laws.LanguageLiterals.{plain-read, with_suffix-read, str-reads, byte-reads, byte_str-reads}
use Rattle.rustc_lexer.specs.laws.LanguageLiterals.{c_str-reads, raw_str-reads, raw_byte_str-reads, raw_c_str-reads}
use Rattle.rustc_lexer.specs.laws.LanguageLiterals.{number-reads}
use Rattle.rustc_lexer.specs.laws.LanguageReach.{ends, same, stays, literal_reach, reach-literal, suffix-alike}
use Rattle.rustc_lexer.specs.laws.LanguageReach.{literal-looks, literal-alike, no-hash, known-decided, by_only}
use Rattle.rustc_lexer.specs.laws.LanguageReach.{unknown_k, raw_ident-decided_by}
use Rattle.rustc_lexer.specs.laws.LanguageRuns.{Sound, letters-start}
use Rattle.rustc_lexer.specs.laws.LanguageWords.{by_letter, continue-word, no-opening, opens_raw-none, none-raw}
use Rattle.rustc_lexer.specs.laws.LanguageWords.{ident-sound, invalid-sound, raw_ident-sound, keyword-sound}
use Rattle.rustc_lexer.specs.laws.LanguageWords.{ident-is_read, prefix-read as word_prefix-read, invalid-read}
use Rattle.rustc_lexer.specs.laws.LanguageWords.{raw_ident-read, keyword-read}
use Rattle.rustc_lexer.specs.laws.Reach.{cut, past}
use Rattle.rustc_lexer.specs.Language as the
use Rattle.rustc_lexer.specs.Language.{begins_prefixed, IsTokenBefore}
use Rattle.rustc_lexer.specs.LiteralGrammar.{IsLiteralBefore}
use Rattle.rustc_lexer.specs.LanguageText.{TheOnly}
use Rattle.rustc_lexer.specs.GrammarLaws.{reach, BeginsWith}
use Rattle.rustc_lexer.specs.model.Lexeme.{opens_raw, begins_raw, raw_past_or_ident, letter_r, letter_k, letter_b}
use Rattle.rustc_lexer.specs.model.Lexeme.{letter_c, word, past_first, read_by, lexeme}
use Rattle.rustc_lexer.specs.model.Literal.{literal}
use Rattle.rustc_lexer.specs.model.Quoted.{byte_body, byte_str_body, c_str_body}
use Rattle.rustc_lexer.specs.model.Raw.{raw_literal}
use Rattle.rustc_lexer.specs.model.Scan.{after, begins}

-- ---- the scanner reads a token of the language

abbrev SoundAll : ℕ → (List ℕ → TokenKind × ℕ) → Type 0
SoundAll c scan = (s : List ℕ) → Sound c s (scan s)

r-sound : SoundAll 114 letter_r
r-sound s =
    grind (arith, common_steps, raw_ident-sound, raw_str-sound, ident-sound, letters-start, opens_raw-none, no-opening)

k-sound : SoundAll 107 letter_k
k-sound s = grind (arith, common_steps, keyword-sound, ident-sound, letters-start, no-opening)

-- After one letter, an `r` and a character that opens a raw string can be read as a raw string.
raw-parts : (c : ℕ) (scan : List ℕ → TokenKind × ℕ)
    → ((s : List ℕ) → NextIs opens_raw s → Sound c (114 ∷ s) (scan (114 ∷ s))) → (s : List ℕ) → begins_raw s ≡ true
    → Sound c s (scan s)
raw-parts c scan is w3 e = grind (arith, common_steps, and_parts, eqb-true)

b-sound : SoundAll 98 letter_b
b-sound s = by_test (Sound 98 s) (begins (codes "'") s) (literal (after 1 byte_body) s) _ (byte-sound s)
    (λ e. by_test (Sound 98 s) (begins (codes "\"") s) (literal (after 1 byte_str_body) s) (raw_past_or_ident Br s)
    (byte_str-sound s)
    (λ f. by_test (Sound 98 s) (begins_raw s) (after 1 (raw_literal Br) s) (ident_or_unknown_prefix s)
    (raw-parts 98 (after 1 (raw_literal Br)) raw_byte_str-sound s)
    (λ g. ident-sound 98 letters-start.2 s (free e f g))))
  where
    free : begins (codes "'") s ≡ false → begins (codes "\"") s ≡ false → begins_raw s ≡ false
        → begins_prefixed (98 ∷ s) ≡ false
    free e f g =
        let none = none-raw s g in
        no-opening (98 ∷ s) record {
          r_quote = refl;
          r_hash = refl;
          b_one = e;
          b_quote = f;
          br_quote = none.0;
          br_hash = none.1;
          c_quote = refl;
          cr_quote = refl;
          cr_hash = refl;
          k_hash = refl;
        }

c-sound : SoundAll 99 letter_c
c-sound s = by_test (Sound 99 s) (begins (codes "\"") s) (literal (after 1 c_str_body) s) (raw_past_or_ident Cr s)
    (c_str-sound s)
    (λ f. by_test (Sound 99 s) (begins_raw s) (after 1 (raw_literal Cr) s) (ident_or_unknown_prefix s)
    (raw-parts 99 (after 1 (raw_literal Cr)) raw_c_str-sound s) (λ g. ident-sound 99 letters-start.3 s (free f g)))
  where
    free : begins (codes "\"") s ≡ false → begins_raw s ≡ false → begins_prefixed (99 ∷ s) ≡ false
    free f g =
        let none = none-raw s g in
        no-opening (99 ∷ s) record {
          r_quote = refl;
          r_hash = refl;
          b_one = refl;
          b_quote = refl;
          br_quote = refl;
          br_hash = refl;
          c_quote = f;
          cr_quote = none.0;
          cr_hash = none.1;
          k_hash = refl;
        }

word-sound : (c : ℕ) → is_id_start c ≡ true → SoundAll c (word c)
word-sound c start =
    by_letter SoundAll c r-sound k-sound b-sound c-sound (λ r k b d s. ident-sound c start s (rw (r, k, b, d) refl))

-- Holds if everything that the scanner of this family reads after the character c is a token.
abbrev Reads : ℕ → Family → Type 0
Reads c f = SoundAll c (read_by f c)

at : (c d : ℕ) (f : Family) → Reads d f → (c == d) ≡ true → Reads c f
at c d f is e = subst (λ (x : ℕ). Reads x f) (sym (eqb-true c d e)) is

each-sound : (c : ℕ) → SoundAll c (past_first c)
unfolding past_first
each-sound c =
    by_test (Reads c) (c == 47) Slash _ (at c 47 Slash slash-sound)
    (λ a. by_test (Reads c) (is_whitespace c) Space _ (space-sound c)
    (λ b. by_test (Reads c) (is_id_start c) Word _ (word-sound c)
    (λ d. by_test (Reads c) (is_ascii_digit c) Number _ (number-sound c)
    (λ e. by_test (Reads c) (c == 39) Quote _ (at c 39 Quote quote-sound)
    (λ f. by_test (Reads c) (c == 34) Str _ (at c 34 Str str-sound)
    (λ g. by_test (Reads c) (is_emoji c) Emoji _ (invalid-sound c d)
    (λ h. by_test (Reads c) (c == 35) Hash Symbol (at c 35 Hash hash-sound)
    (λ i. λ s. the.symbol (rw (a, b, d, e, f, g, h, i) refl)))))))))

pub lexeme-sound : (s : List ℕ) → IsTokenBefore (drop (lexeme s).1 s) (lexeme s).0 (take (lexeme s).1 s)
lexeme-sound [] = the.end refl
lexeme-sound (c ∷ s) = each-sound c s

-- ---- the scanner reads every token of the language

literal-reads : {next : List ℕ} {kind : LiteralKind} {takes : Bool} {w : List ℕ} → IsLiteralBefore next kind takes w
    → ReadsLiteral next kind takes w
literal-reads w0 =
    search (
      arith,
      number-reads,
      str-reads,
      byte_str-reads,
      c_str-reads,
      byte-reads,
      one-reads,
      char-reads,
      name-reads,
      raw_str-reads,
      raw_byte_str-reads,
      raw_c_str-reads,
    )

pub token-read : {next : List ℕ} {kind : TokenKind} {w : List ℕ} → IsTokenBefore next kind w
    → lexeme (w ++ next) ≡ (kind, length w)
token-read {next} (the.end none) = ap lexeme none
token-read {next} (the.whitespace {c} {w} all stop) = space-read c w next all stop
token-read {next} (the.line_comment {style} {w} all stop is) = line-read style w next all stop is
token-read {next} (the.block_comment {style} {w} p is) = block-read style w next p is
token-read {next} (the.open_comment {style} {w} none never is) = open-read style w next none never is
token-read {next} (the.ident {w} is stop none) = ident-is_read w next is stop none
token-read {next} (the.unknown_prefix {w} is goes free) = word_prefix-read w next is goes free
token-read {next} (the.invalid_ident {c} {w} start all wrong stop) = invalid-read c w next start all wrong stop
token-read {next} (the.raw_ident {w} is stop) = raw_ident-read w next is stop
token-read {next} (the.forced_keyword {w} is stop) = keyword-read w next is stop
token-read {next} (the.lifetime {c} {w} start all stop quote hash) = lifetime-read c w next start all stop quote hash
token-read {next} (the.unknown_prefix_lifetime {c} {w} start all hash free) = prefix-read c w next start all hash free
token-read {next} (the.raw_lifetime {w} is stop) = raw_lifetime-read w next is stop
token-read {next} (the.literal {kind} {w} is) = plain-read next kind w (literal-reads is)
token-read {next} (the.literal_with {kind} {w} {suffix} is suffix_is) =
    with_suffix-read next kind w suffix (literal-reads is) suffix_is
token-read {next} (the.slash stop) = slash-read next stop
token-read {next} (the.pound stop) = pound-read next stop
token-read {next} (the.guarded_prefix {c} is) = guarded-read c next is
token-read {next} (the.symbol {c} is) = symbol-read c next is

-- ---- how far a token looks ahead

pub token-alike : {next : List ℕ} {kind : TokenKind} {w : List ℕ} → IsTokenBefore next kind w → (other : List ℕ)
    → take (reach kind w) other ≡ take (reach kind w) next → IsTokenBefore other kind w
token-alike {next} (the.end none) other e = the.end (ends next other e none)
token-alike {next} (the.whitespace all stop) other e = the.whitespace all (stays _ next other e stop)
token-alike {next} (the.line_comment all stop is) other e = the.line_comment all (stays _ next other e stop) is
token-alike {next} (the.block_comment p is) other e = the.block_comment p is
token-alike {next} (the.open_comment none never is) other e = the.open_comment (ends next other e none) never is
token-alike {next} (the.ident is stop none) other e =
    the.ident is (stays _ next other e stop) (stays _ next other e none)
token-alike {next} (the.unknown_prefix {w} is go free) other e = by_only (bytes_eq w (codes "k")) other next e
    (λ is_k two. unknown_k next other w is_k is (stays _ next other (cut 1 2 other next (omega arith) two) go) two free)
    (λ no_k one. the.unknown_prefix is (stays _ next other one go)
    (grind (arith, common_steps, same, known-decided, or_parts, continue-word, and_parts, or_from, no-hash)))
token-alike {next} (the.invalid_ident start all wrong stop) other e =
    the.invalid_ident start all wrong (stays _ next other e stop)
token-alike {next} (the.raw_ident is stop) other e = the.raw_ident is (stays _ next other e stop)
token-alike {next} (the.forced_keyword is stop) other e = the.forced_keyword is (stays _ next other e stop)
token-alike {next} (the.lifetime start all stop quote hash) other e =
    the.lifetime start all (stays _ next other e stop) (stays _ next other e quote)
    (λ go. hash (stays _ other next (sym e) go))
token-alike {next} (the.unknown_prefix_lifetime {c} {w} start all hash free) other e =
    by_only (bytes_eq (c ∷ w) (codes "r")) other next e
    (λ is_r two. the.unknown_prefix_lifetime start all (stays _ next other (cut 1 2 other next (omega arith) two) hash)
    (raw_ident-decided_by (c ∷ w) is_r next other two free))
    (λ no_r one. the.unknown_prefix_lifetime start all (stays _ next other one hash) (no-hash 114 c w other all no_r))
token-alike {next} (the.raw_lifetime is stop) other e = the.raw_lifetime is (stays _ next other e stop)
token-alike {next} (the.literal {kind} {w} is) other far =
    let e = subst (λ (k : ℕ). take k other ≡ take k next)
    (reach-literal kind _ w ∙ ap (literal_reach kind) (sym (append-nil w))) far in
    the.literal (literal-alike is [] other e)
token-alike {next} (the.literal_with {kind} {w} {suffix} is suffix_is) other far =
    let e = subst (λ (k : ℕ). take k other ≡ take k next) (reach-literal kind _ (w ++ suffix)) far in
    let k : ℕ = literal_reach kind (w ++ suffix) in
    the.literal_with (literal-alike is suffix (suffix ++ other) (past k suffix next other e))
    (suffix-alike suffix_is other (cut 1 k other next (literal-looks is refl suffix) e))
token-alike {next} (the.slash stop) other e = the.slash (stays _ next other e stop)
token-alike {next} (the.pound stop) other e = the.pound (stays _ next other e stop)
token-alike {next} (the.guarded_prefix is) other e = the.guarded_prefix is
token-alike {next} (the.symbol is) other e = the.symbol is

-- ---- both

-- Each text has exactly one token at its front.
pub begins-one : (s : List ℕ) → TheOnly (Unit {0}) (BeginsWith s)
begins-one s = record {
  answer = ((lexeme s).0, take (lexeme s).1 s);
  only = λ always other. (
    λ begins. (
        let read : lexeme s ≡ (other.0, length other.1) = ap lexeme begins.1 ∙ token-read begins.2 in
        let kind = sym (ap (λ (r : TokenKind × ℕ). r.0) read) in
        let text = sym (ap (λ (r : TokenKind × ℕ). take r.1 s) read
        ∙ (ap (take (length other.1)) begins.1 ∙ take-append_seam other.1 begins.0)) in
        λ i. (kind i, text i)
        ),
    λ same. subst (BeginsWith s) (sym same)
        (drop (lexeme s).1 s, sym (take-append-drop (lexeme s).1 s), lexeme-sound s),
  );
}
