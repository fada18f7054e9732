-- Literals with single quotes that are one element.
use Rattle.std.proofs.Common.{◌≡◌, ◌≤◌, ◌<◌, ◌+◌, ◌*◌, ◌&&◌, ◌++◌, ◌-◌, suc, take, drop, drop-cons, ℕ, Bool, true}
use Rattle.std.proofs.Common.{List, [], ◌∷◌, length, Option, Some, None, sym, ap, refl, ◌∙◌, arith}
use Rattle.std.specs.{Char.{digit_value, is_ascii}, List.{list_all, slice_index}, Str.{chars}}
use Rattle.std.proofs.lemmas.{Bool.{Decides.{nat_tests}}, Grind.{common_steps}}
use Rattle.std.proofs.{Math.ListN.{drop_of_length-le}, lemmas.List.Folds.{list_all-append}}
use Rattle.std.specs.Option.{IfSome}
use Rattle.std.proofs.lemmas.{List.{nil_from_length, take-append-drop, get_or-drop}}
use Rattle.std.proofs.lemmas.Str.{chars-IsAscii}
use Rattle.rustc_literal_escaper.specs.declared.element.Element.{Element, TheVariants.{Byte, Plain, Unicode}}
use Rattle.rustc_literal_escaper.specs.model.Escape.{braced, closed_at_run, escape, short}
use Rattle.rustc_literal_escaper.specs.Grammar.{is_hex}
use Rattle.rustc_literal_escaper.specs.model.Single.{IsShort, StartsWithSingle, unescaped}
use Rattle.rustc_literal_escaper.proofs.DigitLemmas.{left_at, left_at-brace, left_at-few, left_at-first, left_at-start, hex-yes}
use Rattle.rustc_literal_escaper.proofs.{RunLemmas.{chars-simple}, WrittenLemmas.{is-ascii}}

chars_are : (bs xs : List ℕ) → bs ≡ xs → list_all is_ascii xs ≡ true → chars bs ≡ xs
chars_are bs xs e a = ap chars e ∙ chars-IsAscii xs (is-ascii xs a)

pub chars_one : (bs : List ℕ) → 1 ≤ length bs → length bs < 2 → slice_index bs 0 < 128
    → chars bs ≡ slice_index bs 0 ∷ []
chars_one bs l m a = chars_are bs _ (grind (arith, common_steps)) (grind (arith, common_steps, nat_tests))

pub chars_two : (bs : List ℕ) → 2 ≤ length bs → length bs < 3 → slice_index bs 0 < 128 → slice_index bs 1 < 128
    → chars bs ≡ slice_index bs 0 ∷ slice_index bs 1 ∷ []
chars_two bs l m a b = chars_are bs _ (grind (arith, common_steps)) (grind (arith, common_steps, nat_tests))

-- An unescaped ASCII character.
plain_is : (s : List ℕ) (c : ℕ) → s ≡ c ∷ [] → c < 128 → unescaped c ≡ Plain c → (c ≡ 92 → ⊥) → IsShort s c
plain_is s c at small plain other = record {
  element = Plain c;
  whole = rw at (grind (arith, common_steps, nat_tests));
  character = refl;
  byte_value = grind (arith, common_steps, nat_tests);
}

pub plain_short : (bs : List ℕ) → 1 ≤ length bs → length bs < 2 → slice_index bs 0 < 128
    → unescaped (slice_index bs 0) ≡ Plain (slice_index bs 0) → (slice_index bs 0 ≡ 92 → ⊥)
    → IsShort (chars bs) (slice_index bs 0)
plain_short bs l m small plain other = plain_is (chars bs) (slice_index bs 0) (chars_one bs l m small) small plain other

-- A backslash and a character that is a short escape with it.
short-ascii : (c b : ℕ) → Byte b ≡ short c → c < 128
short-ascii c b e = grind (arith, common_steps, nat_tests)

short-small : (c b : ℕ) → Byte b ≡ short c → b < 128
short-small c b e = grind (arith, common_steps, nat_tests)

escape_is : (s : List ℕ) (c b : ℕ) → s ≡ 92 ∷ c ∷ [] → Byte b ≡ short c → IsShort s b
escape_is s c b at e = record {
  element = Byte b;
  whole = rw at (grind (arith, common_steps, nat_tests));
  character = grind (arith, common_steps, nat_tests, short-small c b e);
  byte_value = refl;
}

pub escape_short : (bs : List ℕ) (b : ℕ) → 2 ≤ length bs → length bs < 3 → slice_index bs 0 ≡ 92
    → Byte b ≡ short (slice_index bs 1) → IsShort (chars bs) b
escape_short bs b l m slash e =
    escape_is (chars bs) (slice_index bs 1) b
    (chars_two bs l m (omega (arith, slash)) (short-ascii _ b e) ∙ ap (λ (c : ℕ). c ∷ slice_index bs 1 ∷ []) slash) e

-- ---- numbers between braces

braced-first : (c : ℕ) (s : List ℕ) → is_hex c ≡ true → closed_at_run (c ∷ s) ≡ braced (c ∷ s)
braced-first c s e = grind (arith, common_steps, nat_tests)

pub number_ends : (v n c : ℕ) (s : List ℕ) → n ≤ 6 → digit_value c < 16
    → left_at v n (125 ∷ []) ≡ left_at 0 0 (c ∷ s) → (Unicode v, []) ≡ braced (c ∷ s)
number_ends v n c s few digit at =
    sym (left_at-brace v n 125 [] refl few) ∙ at
    ∙ (left_at-start (c ∷ s) ∙ braced-first c s (hex-yes c digit))

pub read_digit : (v n c d : ℕ) (s : List ℕ) → digit_value c < 16 → d ≡ digit_value c → n ≤ 6 → (n ≡ 6 → ⊥)
    → left_at (v * 16 + d) (n + 1) s ≡ left_at v n (c ∷ s)
read_digit v n c d s l is few more =
    ap (λ (x : ℕ). left_at (v * 16 + x) (n + 1) s) is ∙ sym (left_at-few v n c s (hex-yes c l) few more)

pub first_digit : (c d : ℕ) (s : List ℕ) → digit_value c < 16 → d ≡ digit_value c → left_at d 1 s ≡ left_at 0 0 (c ∷ s)
first_digit c d s l is =
    ap (λ (x : ℕ). left_at x 1 s) is ∙ (left_at-first c s (hex-yes c l) ∙ sym (left_at-start (c ∷ s)))

pub no_digits : (v n : ℕ) (rest : List ℕ) (read : Element × List ℕ) → length rest ≡ 0
    → left_at v n (rest ++ (125 ∷ [])) ≡ read → left_at v n (125 ∷ []) ≡ read
no_digits v n rest read none at = ap (λ (xs : List ℕ). left_at v n (xs ++ (125 ∷ []))) (sym (nil_from_length rest none)) ∙ at

pub digit_ascii : (c : ℕ) → digit_value c < 16 → is_ascii c ≡ true
digit_ascii c l = grind (arith, common_steps, nat_tests)

pub all_more : (c : ℕ) (s rest : List ℕ) → rest ≡ c ∷ s → is_ascii c ≡ true → list_all is_ascii s ≡ true
    → list_all is_ascii rest ≡ true
all_more c s rest e a all = ap (list_all is_ascii) e ∙ (ap (λ (b : Bool). b && list_all is_ascii s) a ∙ all)

pub all_none : (rest : List ℕ) → length rest ≡ 0 → list_all is_ascii rest ≡ true
all_none rest none = ap (list_all is_ascii) (nil_from_length rest none)

last_byte : (s : List ℕ) (n : ℕ) → length s ≡ n + 1 → s ≡ take n s ++ (slice_index s n ∷ [])
last_byte s n e = sym (take-append-drop n s) ∙ ap (λ (xs : List ℕ). take n s ++ xs) (drop-cons s n 0 (omega arith) ∙ ap (λ (xs : List ℕ). slice_index s n ∷ xs) (drop_of_length-le s {i = suc n} (omega arith)))

abbrev in_braces : List ℕ → Element → Type 0
in_braces digits e = (list_all is_ascii digits ≡ true) × ((e, []) ≡ braced (digits ++ (125 ∷ [])))

braces_whole : (bs digits : List ℕ) (e : Element) → bs ≡ 117 ∷ 123 ∷ digits ++ (125 ∷ []) → in_braces digits e
    → (e, []) ≡ escape (chars bs)
braces_whole bs digits e is h = grind (arith, common_steps, list_all-append, chars_are)

braces_is : (bs : List ℕ) (n : ℕ) → length bs ≡ n + 5 → slice_index bs 0 ≡ 92 → slice_index bs 1 ≡ 117
    → slice_index bs 2 ≡ 123 → slice_index bs (length bs - 1) ≡ 125
    → bs ≡ 92 ∷ 117 ∷ 123 ∷ (slice_index bs 3 ∷ take n (drop 4 bs)) ++ (125 ∷ [])
braces_is bs n e slash u brace close = grind (arith, common_steps, get_or-drop, last_byte)

-- ---- an escape that is the whole text

pub past_backslash : (bs rest : List ℕ) → bs ≡ 92 ∷ rest → chars bs ≡ 92 ∷ chars rest
past_backslash bs rest e = ap chars e ∙ chars-simple true (92 ∷ []) rest refl

starts-single : (s left : List ℕ) (e : Element) → s ≡ 92 ∷ left → (e, []) ≡ escape left → StartsWithSingle s e []
starts-single s left e at is = rw at (grind (arith, common_steps, nat_tests))

pub number_whole : (bs : List ℕ) (r : Option Element) → 5 ≤ length bs → slice_index bs 0 ≡ 92
    → slice_index bs 1 ≡ 117 → slice_index bs 2 ≡ 123 → slice_index bs (length bs - 1) ≡ 125
    → IfSome r (in_braces (slice_index bs 3 ∷ take (length bs - 1 - 4) (drop 4 bs)))
    → IfSome r (λ e. StartsWithSingle (chars bs) e [])
number_whole bs None l slash u brace close h = tt
number_whole bs (Some e) l slash u brace close h =
    let digits : List ℕ = slice_index bs 3 ∷ take (length bs - 1 - 4) (drop 4 bs) in
    let rest : List ℕ = 117 ∷ 123 ∷ digits ++ (125 ∷ []) in
    starts-single (chars bs) (chars rest) e
    (past_backslash bs rest (braces_is bs (length bs - 1 - 4) (omega arith) slash u brace close))
    (braces_whole rest digits e refl h)

pub ruleset whole_lemmas = (all_more, all_none, digit_ascii, first_digit, no_digits, number_ends)
