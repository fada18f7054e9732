-- How far a token of each kind looks ahead, derived from the conditions of the language on the text after it.
use Rattle.std.proofs.Common.{◌≡◌, ℕ, ◌<◌, ◌==◌, ◌&&◌, if◌then◌else◌, Bool, true, false, true≢false, List, [], ◌∷◌}
use Rattle.std.proofs.Common.{◌++◌, take, codes, refl, sym, ap, ◌∙◌, subst, arith, Option, None, bytes_eq}
use Rattle.std.proofs.lemmas.Bool.{and_parts, or_parts, eqb-true}
use Rattle.std.specs.List.{list_all, list_any}
use Rattle.std.proofs.{Math.Bool.{and-false, and-true}, lemmas.Grind.{common_steps}}
use Rattle.rustc_lexer.specs.Classes.{is_ident, AreAll, NextIs, NextIsNot, is_word_continue, is_name_start}
use Rattle.rustc_lexer.specs.Classes.{begins_ident_after, ends_prefix}
use Rattle.unicode_ident.proofs.Computing.{unicode_ident}
use Rattle.rustc_lexer.specs.{Base, LiteralKind, Int, Float, Char, Literal, UnknownPrefix}
use Rattle.rustc_lexer.specs.Language as the
use Rattle.rustc_lexer.specs.LiteralGrammar as lit
use Rattle.rustc_lexer.specs.LiteralGrammar.{IsDoubleQuoted, SingleTo, IsSingleQuoted, IsRaw, IsLiteralBefore}
use Rattle.rustc_lexer.specs.LiteralGrammar.{IsSuffixBefore}
use Rattle.rustc_lexer.specs.Language.{known_prefixes, begins_prefixed, IsTokenBefore}
use Rattle.rustc_lexer.specs.GrammarLaws.{reach}
use Rattle.rustc_lexer.specs.NumberGrammar as number
use Rattle.rustc_lexer.specs.NumberGrammar.{HasNumberForm, IsNumberBefore}
use Rattle.rustc_lexer.specs.model.Scan.{begins, next_is}
use Rattle.rustc_lexer.specs.laws.LanguageLiterals.{HasDigit, number-digit}
use Rattle.rustc_lexer.specs.laws.LanguageRuns.{word-no_prefix_end}
use Rattle.rustc_lexer.specs.laws.LanguageLifetimes.{end-stops}
use Rattle.rustc_lexer.specs.laws.Ident.{begins_hash_ident-decided}
use Rattle.rustc_lexer.specs.model.Ident.{begins_hash_ident}
use Rattle.rustc_lexer.specs.laws.NumberLongest.{number-looks, number_reach, number-alike}
use Rattle.rustc_lexer.specs.laws.Reach.{begins-decided, cut, decided_same, next_is-decided, past}

-- ---- one character, and the end of the text

pub ends : (s u : List ℕ) → take 1 u ≡ take 1 s → s ≡ [] → u ≡ []
ends s u w2 w3 = grind (arith, common_steps)

pub same : (p : ℕ → Bool) (s u : List ℕ) → take 1 u ≡ take 1 s → next_is p u ≡ next_is p s
same p s u e = decided_same 1 1 (next_is p) u s (next_is-decided p) (omega arith) e

pub stays : (p : ℕ → Bool) (s u : List ℕ) → take 1 u ≡ take 1 s → {b : Bool} → next_is p s ≡ b → next_is p u ≡ b
stays p s u e is = same p s u e ∙ is

-- ---- literals

-- Returns how far a literal looks ahead, wherever its suffix starts.
abbrev pub literal_reach : LiteralKind → List ℕ → ℕ
literal_reach kind w = reach (Literal kind 0) w

pub reach-literal : (kind : LiteralKind) (suffix_start : ℕ) (w : List ℕ) → reach (Literal kind suffix_start) w ≡
    literal_reach kind w
reach-literal kind suffix_start w = grind (arith, common_steps)

-- A property of all integers and floats is a property of all numbers.
pub number-kind : (P : LiteralKind → Type 0) → ((base : Base) (empty : Bool) → P (Int base empty))
    → ((base : Base) (empty : Bool) → P (Float base empty)) → {next : List ℕ} {kind : LiteralKind} {w : List ℕ}
    → HasNumberForm next kind w → P kind
number-kind P int float (number.of_prefix {base} whole) = int base true
number-kind P int float (number.of_parts whole (number.nothing {base = base})) = int base false
number-kind P int float (number.of_parts whole (number.dot {base = base} free)) = float base false
number-kind P int float (number.of_parts whole (number.of_fraction {base = base} digit are)) = float base false
number-kind P int float (number.of_parts whole (number.of_exponent no_digit (number.signed letter sign are))) =
    float _ _
number-kind P int float (number.of_parts whole (number.of_exponent no_digit (number.unsigned letter are))) = float _ _
number-kind P int float (number.of_parts whole (number.of_both ds digit are (number.signed letter sign all))) =
    float _ _
number-kind P int float (number.of_parts whole (number.of_both ds digit are (number.unsigned letter all))) = float _ _

-- The kind of a number alone decides how far the number looks ahead.
number-reach : {next : List ℕ} {kind : LiteralKind} {w : List ℕ} → HasNumberForm next kind w → (v : List ℕ)
    → literal_reach kind v ≡ number_reach kind
number-reach is v = number-kind (λ kind. literal_reach kind v ≡ number_reach kind) (λ base empty. refl)
    (λ base empty. refl) is

number-stays : {next : List ℕ} {kind : LiteralKind} (w : List ℕ) → HasDigit w → IsNumberBefore next kind w
    → (other : List ℕ) → take (number_reach kind) other ≡ take (number_reach kind) next → IsNumberBefore other kind w
number-stays {next} {kind} w d is other e =
    subst (IsNumberBefore other kind) (sym d.whole)
    (number-alike d.first d.rest d.digit (subst (IsNumberBefore next kind) d.whole is) other e)

double-alike : {next : List ℕ} {t : Bool} {w : List ℕ} → IsDoubleQuoted next t w → (other : List ℕ)
    → take 1 other ≡ take 1 next → IsDoubleQuoted other t w
double-alike w0 other e = search (arith, ends, lit.closed, lit.unclosed, lit.unclosed_escape)

-- The first character after the text decides whether it starts with two quotes.
lone-alike : (w s u : List ℕ) → take 1 u ≡ take 1 s → SingleTo (codes "'") w → begins (codes "''") (w ++ s) ≡ false
    → begins (codes "''") (w ++ u) ≡ false
lone-alike w0 s u e q f = grind (arith, common_steps)

-- A terminated text in single quotes depends on at most one character after it.
single-alike : {next : List ℕ} {t : Bool} {w : List ℕ} → IsSingleQuoted next t w → t ≡ true → (other : List ℕ)
    → take 1 other ≡ take 1 next → IsSingleQuoted other t w
single-alike w0 t other e = search (arith, lone-alike, lit.one, lit.closed, lit.closed_line)

-- Every text in single quotes depends on at most two characters after it.
open-alike : {next : List ℕ} {t : Bool} {w : List ℕ} → IsSingleQuoted next t w → (other : List ℕ)
    → take 2 other ≡ take 2 next → IsSingleQuoted other t w
open-alike {next} (lit.one out) other e = lit.one out
open-alike {next} (lit.closed {w} q f) other e =
    lit.closed q (lone-alike w next other (cut 1 2 other next (omega arith) e) q f)
open-alike {next} (lit.closed_line q) other e = lit.closed_line q
open-alike {next} (lit.at_slash {w} q go f) other e =
    lit.at_slash q (stays _ next other (cut 1 2 other next (omega arith) e) go)
    (decided_same 2 2 (begins (codes "/'")) (w ++ other) (w ++ next) (begins-decided (codes "/'")) (omega arith)
    (past 2 w next other e) ∙ f)
open-alike {next} (lit.at_newline {w} q go f) other e =
    lit.at_newline q (stays _ next other (cut 1 2 other next (omega arith) e) go)
    (decided_same 2 2 (begins (codes "\n'")) other next (begins-decided (codes "\n'")) (omega arith) e ∙ f)
open-alike {next} (lit.unclosed none q) other e =
    lit.unclosed (ends next other (cut 1 2 other next (omega arith) e) none) q
open-alike {next} (lit.unclosed_escape none q) other e =
    lit.unclosed_escape (ends next other (cut 1 2 other next (omega arith) e) none) q

-- A raw string depends at most on whether the text ends after it.
pub raw-alike : {next : List ℕ} {o : Option ℕ} {w : List ℕ} → IsRaw next o w → (other : List ℕ)
    → (o ≡ None → next ≡ [] → other ≡ []) → IsRaw other o w
raw-alike w0 other ended = search (arith, lit.closed, lit.too_many, lit.unclosed, lit.no_quote, lit.no_more)

pub suffix-alike : {next w : List ℕ} → IsSuffixBefore next w → (other : List ℕ) → take 1 other ≡ take 1 next
    → IsSuffixBefore other w
suffix-alike w0 other e = grind (arith, common_steps, stays, lit.none, lit.some)

-- A terminated text that does not start with a name does not start with one together with the text after it either.
closed-first : {next : List ℕ} {t : Bool} {w : List ℕ} → IsSingleQuoted next t w → t ≡ true → NextIsNot is_name_start w
    → (s : List ℕ) → NextIsNot is_name_start (w ++ s)
closed-first other t stop s = grind (arith, common_steps, end-stops)

closed-reach : {next : List ℕ} (w : List ℕ) → IsSingleQuoted next true w → NextIsNot is_name_start w → (s : List ℕ)
    → literal_reach (Char true) (39 ∷ w ++ s) ≡ 1
closed-reach w q stop s = let first : next_is is_name_start (w ++ s) ≡ false = closed-first q refl stop s in
    rw first refl

-- A literal that can have a suffix looks ahead.
pub literal-looks : {next : List ℕ} {kind : LiteralKind} {takes : Bool} {w : List ℕ} → IsLiteralBefore next kind takes w
    → takes ≡ true → (s : List ℕ) → 0 < literal_reach kind (w ++ s)
literal-looks w0 w1 s = grind (arith, common_steps, number-reach, number-looks, and-false, closed-reach)

pub literal-alike : {next : List ℕ} {kind : LiteralKind} {takes : Bool} {w : List ℕ} → IsLiteralBefore next kind takes w
    → (s other : List ℕ) → take (literal_reach kind (w ++ s)) other ≡ take (literal_reach kind (w ++ s)) next
    → IsLiteralBefore other kind takes w
literal-alike {next} (lit.number {kind} {w} is) s other e =
    lit.number (number-stays w (number-digit is) is other
    (subst (λ (k : ℕ). take k other ≡ take k next) (number-reach is.form (w ++ s)) e))
literal-alike {next} (lit.str q) s other e = lit.str (double-alike q other e)
literal-alike {next} (lit.byte_str q) s other e = lit.byte_str (double-alike q other e)
literal-alike {next} (lit.c_str q) s other e = lit.c_str (double-alike q other e)
literal-alike {next} (lit.byte_char {t = true} q) s other e = lit.byte_char (single-alike q refl other e)
literal-alike {next} (lit.byte_char {t = false} q) s other e = lit.byte_char (open-alike q other e)
literal-alike {next} (lit.char_of_one out) s other e = lit.char_of_one out
literal-alike {next} (lit.char {t = true} {w} q stop) s other e =
    lit.char (single-alike q refl other (subst (λ (k : ℕ). take k other ≡ take k next) (closed-reach w q stop s) e))
    stop
literal-alike {next} (lit.char {t = false} q stop) s other e = lit.char (open-alike q other e) stop
literal-alike {next} (lit.char_of_name w start all) s other e = lit.char_of_name w start all
literal-alike {next} (lit.raw_str q free) s other e =
    lit.raw_str (raw-alike q other (λ refused. ends next other e)) free
literal-alike {next} (lit.raw_byte_str q) s other e =
    lit.raw_byte_str (raw-alike q other (λ refused. ends next other e))
literal-alike {next} (lit.raw_c_str q) s other e = lit.raw_c_str (raw-alike q other (λ refused. ends next other e))

-- ---- prefixes

-- A text that starts with a word other than the letter `d` does not start with `d`, a hash and an identifier.
pub no-hash : (d c : ℕ) (w s : List ℕ) → AreAll is_word_continue w → bytes_eq (c ∷ w) (d ∷ []) ≡ false
    → begins_ident_after (d ∷ 35 ∷ []) (c ∷ w ++ s) ≡ false
no-hash d c [] s all e = rw (sym (and-true (c == d)) ∙ e) refl
no-hash d c (x ∷ w) s all e =
    let none : (x == 35) ≡ false =
    (or_parts (x == 35) _
    (word-no_prefix_end x (and_parts (is_word_continue x) (list_all is_word_continue w) all).0)).0 in
    rw (none, and-false (c == d)) refl

-- Whether a text starts with a known prefix does not depend on the text after a character that ends a prefix.
prefix_end-decided : (letters w : List ℕ) (m c : ℕ) (u v : List ℕ) → list_all is_word_continue letters ≡ true
    → ends_prefix c ≡ true → begins (letters ++ (m ∷ [])) (w ++ c ∷ v) ≡ begins (letters ++ (m ∷ [])) (w ++ c ∷ u)
prefix_end-decided [] [] m c u v all is_end = refl
prefix_end-decided [] (x ∷ w) m c u v all is_end = refl
prefix_end-decided (l ∷ ls) [] m c u v all is_end = grind (arith, common_steps, eqb-true, word-no_prefix_end, and_parts)
prefix_end-decided (l ∷ ls) (x ∷ w) m c u v all is_end =
    ap (λ (b : Bool). (x == l) && b)
    (prefix_end-decided ls w m c u v (and_parts (is_word_continue l) (list_all is_word_continue ls) all).1 is_end)

pub known-decided : (w : List ℕ) (c : ℕ) (u v : List ℕ) → ends_prefix c ≡ true
    → list_any (λ prefix. begins prefix (w ++ c ∷ v)) known_prefixes ≡
    list_any (λ prefix. begins prefix (w ++ c ∷ u)) known_prefixes
unfolding unicode_ident
known-decided w c u v is_end = rw (
  prefix_end-decided (codes "r") w 34 c u v refl is_end,
  prefix_end-decided (codes "r") w 35 c u v refl is_end,
  prefix_end-decided (codes "b") w 39 c u v refl is_end,
  prefix_end-decided (codes "b") w 34 c u v refl is_end,
  prefix_end-decided (codes "br") w 34 c u v refl is_end,
  prefix_end-decided (codes "br") w 35 c u v refl is_end,
  prefix_end-decided (codes "c") w 34 c u v refl is_end,
  prefix_end-decided (codes "cr") w 34 c u v refl is_end,
  prefix_end-decided (codes "cr") w 35 c u v refl is_end,
) refl

-- A proof can distinguish whether a prefix looks ahead further than other prefixes.
pub by_only : {A : Type 0} (b : Bool) (other next : List ℕ)
    → take (if b then 2 else 1) other ≡ take (if b then 2 else 1) next → (b ≡ true → take 2 other ≡ take 2 next → A)
    → (b ≡ false → take 1 other ≡ take 1 next → A) → A
by_only true other next e two one = two refl e
by_only false other next e two one = one refl e

-- A prefix that equals one letter, byte by byte, is that letter.
one-letter : (w : List ℕ) (d : ℕ) → bytes_eq w (d ∷ []) ≡ true → w ≡ d ∷ []
one-letter [] d e = absurd (true≢false (sym e))
one-letter (c ∷ []) d e = ap (λ (x : ℕ). x ∷ []) (eqb-true c d (and_parts (c == d) true e).0)
one-letter (c ∷ x ∷ w) d e = absurd (true≢false (sym (and_parts (c == d) false e).1))

pub unknown_k : (next other w : List ℕ) → bytes_eq w (codes "k") ≡ true → is_ident w ≡ true → NextIs ends_prefix other
    → take 2 other ≡ take 2 next → begins_prefixed (w ++ next) ≡ false → IsTokenBefore other UnknownPrefix w
unknown_k next other w is_k is go two free =
    let k : w ≡ 107 ∷ [] = one-letter w 107 is_k in
    the.unknown_prefix is go (ap (λ (xs : List ℕ). begins_prefixed (xs ++ other)) k
    ∙ (decided_same 2 2 begins_hash_ident other next begins_hash_ident-decided (omega arith) two
    ∙ (ap (λ (xs : List ℕ). begins_prefixed (xs ++ next)) (sym k) ∙ free)))

pub raw_ident-decided_by : (w : List ℕ) → bytes_eq w (114 ∷ []) ≡ true → (next other : List ℕ)
    → take 2 other ≡ take 2 next → begins_ident_after (codes "r#") (w ++ next) ≡ false
    → begins_ident_after (codes "r#") (w ++ other) ≡ false
raw_ident-decided_by w is_r next other two free =
    grind (arith, common_steps, one-letter, decided_same, begins_hash_ident-decided)
