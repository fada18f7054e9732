-- The digits between braces, read one by one, and the tables of digits and of short escapes.
use Rattle.std.proofs.Common.{◌≡◌, ℕ, zero-add, add-zero, ◌+◌, ◌*◌, ◌^◌, ◌<◌, ◌≤◌, ◌==◌, ◌||◌, Bool, true, false}
use Rattle.std.proofs.Common.{if◌then◌else◌, List, [], ◌∷◌, length, fold, filter, refl, sym, ap, ◌∙◌, subst, arith}
use Rattle.std.proofs.Common.{nat_le, nat_lt, min, get_or}
use Rattle.std.specs.Char.{digit_value}
use Rattle.std.proofs.{lemmas.{Bool.{ne_eqb, Decides.{nat_tests}}}, Math.Nat.{pow-le-pow_right}}
use Rattle.std.proofs.lemmas.{Grind.{common_steps, pow_more}, List.FromFn.{get_or-map-range_with_len}}
use Rattle.rustc_literal_escaper.specs.declared.element.Element.{Element, TheVariants.{Unicode, Diagnostic}}
use Rattle.rustc_literal_escaper.specs.declared.error.EscapeError.TheVariants.{InvalidCharInUnicodeEscape}
use Rattle.rustc_literal_escaper.specs.declared.error.EscapeError.TheVariants.{UnclosedUnicodeEscape}
use Rattle.rustc_literal_escaper.specs.declared.error.EscapeError.TheVariants.{OverlongUnicodeEscape}
use Rattle.rustc_literal_escaper.specs.{Grammar.{is_hex, is_digit_or_underscore}, laws.Escape.{digit-runs}}
use Rattle.rustc_literal_escaper.specs.model.Escape.{closed_at_run, front_run, overlong, past_run, short}
use Rattle.rustc_literal_escaper.specs.declared.escape.TheConstants.{DIGITS, SHORT}

-- Another digit fits in 24 bits.
pub with_room : (v n : ℕ) → v < 16 ^ n → n ≤ 6 → (n ≡ 6 → ⊥) → v < 16 ^ 5
with_room v n h few more =
    let k : 16 ^ n ≤ 16 ^ 5 = pow-le-pow_right {n = 16} (omega arith) {i = n} {j = 5} (omega arith) in omega arith

pub with_digit_fits : (v n d : ℕ) → v < 16 ^ n → d < 16 → v * 16 + d < 16 ^ (n + 1)
with_digit_fits v n d h small = rw (pow_more 16 n) (omega arith)

abbrev pub with_digit : ℕ → ℕ → ℕ → ℕ
with_digit v n d = if nat_lt n 6 then v * 16 + d else v

-- Returns the number whose first `n` digits have the value `v`, and whose other digits are these.
abbrev pub number_past : ℕ → ℕ → List ℕ → Element
number_past v n digits =
    if nat_le (n + length digits) 6 then Unicode (fold (λ value digit. value * 16 + digit_value digit) v digits) else
    Diagnostic OverlongUnicodeEscape

abbrev pub closed_past : (ℕ → Bool) → ℕ → ℕ → List ℕ → List ℕ → Element × List ℕ
closed_past h v n digits [] = (Diagnostic UnclosedUnicodeEscape, [])
closed_past h v n digits (c ∷ s) =
    (if c == 125 then number_past v n (filter h digits) else Diagnostic InvalidCharInUnicodeEscape, s)

-- Like `left_at`, for any two classes.
abbrev pub left_by : (ℕ → Bool) → (ℕ → Bool) → ℕ → ℕ → List ℕ → Element × List ℕ
left_by p h v n s = closed_past h v n (front_run p s) (past_run p s)

-- Reads the rest of an escape after `n` digits with the value `v`.
unfoldable pub left_at : ℕ → ℕ → List ℕ → Element × List ℕ
left_at v n s = left_by is_digit_or_underscore is_hex v n s

pub left_at-start : (s : List ℕ) → left_at 0 0 s ≡ closed_at_run s
unfolding left_at
left_at-start s = grind (arith, common_steps, zero-add)

pub left_at-end : (v n : ℕ) → left_at v n [] ≡ (Diagnostic UnclosedUnicodeEscape, [])
unfolding left_at
left_at-end v n = refl

pub left_at-underscore : (v n c : ℕ) (s : List ℕ) → c ≡ 95 → left_at v n (c ∷ s) ≡ left_at v n s
unfolding left_at
left_at-underscore v n c s e = grind (arith, common_steps)

pub left_at-brace : (v n c : ℕ) (s : List ℕ) → c ≡ 125 → n ≤ 6 → left_at v n (c ∷ s) ≡ (Unicode v, s)
unfolding left_at
left_at-brace v n c s e few =
    subst (λ (d : ℕ). left_at v n (d ∷ s) ≡ (Unicode v, s)) (sym e) (grind (arith, add-zero n, few, nat_tests))

by_digit : (p h : ℕ → Bool) (v n c : ℕ) (s : List ℕ) → p c ≡ true → h c ≡ true
    → left_by p h v n (c ∷ s) ≡ left_by p h (with_digit v n (digit_value c)) (n + 1) s
by_digit p h v n c s a b = grind (arith, common_steps, nat_tests)

pub left_at-digit : (v n c : ℕ) (s : List ℕ) → is_hex c ≡ true
    → left_at v n (c ∷ s) ≡ left_at (with_digit v n (digit_value c)) (n + 1) s
unfolding left_at
left_at-digit v n c s e = by_digit is_digit_or_underscore is_hex v n c s (digit-runs c e) e

by_other : (p h : ℕ → Bool) (v n c : ℕ) (s : List ℕ) → p c ≡ false → (c == 125) ≡ false
    → left_by p h v n (c ∷ s) ≡ (Diagnostic InvalidCharInUnicodeEscape, s)
by_other p h v n c s a b = rw a (rw b refl)

pub left_at-few : (v n c : ℕ) (s : List ℕ) → is_hex c ≡ true → n ≤ 6 → (n ≡ 6 → ⊥)
    → left_at v n (c ∷ s) ≡ left_at (v * 16 + digit_value c) (n + 1) s
left_at-few v n c s e few more = grind (arith, nat_tests, left_at-digit v n c s e, few, more)

pub left_at-other : (v n c : ℕ) (s : List ℕ) → (c ≡ 95 → ⊥) → (c ≡ 125 → ⊥) → is_hex c ≡ false
    → left_at v n (c ∷ s) ≡ (Diagnostic InvalidCharInUnicodeEscape, s)
unfolding left_at
left_at-other v n c s a b e =
    by_other is_digit_or_underscore is_hex v n c s (ap (λ x. x || is_hex c) (ne_eqb c 95 a) ∙ e) (ne_eqb c 125 b)

-- A character is a hexadecimal digit exactly if its value is less than 16.
pub hex-yes : (c : ℕ) → digit_value c < 16 → is_hex c ≡ true
hex-yes c l = grind (arith, nat_tests)

pub hex-no : (c : ℕ) → (digit_value c < 16 → ⊥) → is_hex c ≡ false
hex-no c l = grind (arith, nat_tests)

-- Reading the first digit.
pub left_at-first : (c : ℕ) (s : List ℕ) → is_hex c ≡ true → left_at (digit_value c) 1 s ≡ closed_at_run (c ∷ s)
left_at-first c s e = grind (arith, common_steps, nat_tests, left_at-digit 0 0 c s e, left_at-start (c ∷ s), zero-add)

-- After too many digits, the value does not matter.
closed-many : (p : ℕ → Bool) (v n : ℕ) (run : List ℕ) (s : List ℕ) → ((c : ℕ) → p c ≡ is_digit_or_underscore c)
    → 6 < n → closed_past is_hex v n run (past_run p s) ≡ overlong s
closed-many p v n run [] same many = refl
closed-many p v n run (c ∷ s) same many =
    grind (arith, common_steps, nat_tests, same c, closed-many p v n run s same many)

pub left_at-many : (v n : ℕ) (s : List ℕ) → 6 < n → left_at v n s ≡ overlong s
unfolding left_at
left_at-many v n s many = closed-many is_digit_or_underscore v n (front_run is_digit_or_underscore s) s (λ c. refl) many

pub left_at-seventh : (v n c : ℕ) (s : List ℕ) → is_hex c ≡ true → n ≡ 6 → left_at v n (c ∷ s) ≡ overlong s
left_at-seventh v n c s e many =
    left_at-digit v n c s e ∙ left_at-many (with_digit v n (digit_value c)) (n + 1) s (omega arith)

pub overlong-skips : (c : ℕ) (s : List ℕ) → is_digit_or_underscore c ≡ true → overlong (c ∷ s) ≡ overlong s
overlong-skips c s e = rw e refl

pub overlong-ends : (c : ℕ) (s : List ℕ) → is_digit_or_underscore c ≡ false → overlong (c ∷ s) ≡
    (if c == 125 then Diagnostic OverlongUnicodeEscape else Diagnostic InvalidCharInUnicodeEscape, s)
overlong-ends c s e = rw e refl

pub ruleset digit_lemmas = (
  left_at-start,
  left_at-end,
  left_at-underscore,
  left_at-brace,
  left_at-few,
  with_digit_fits,
  left_at-first,
  left_at-other,
  left_at-seventh,
  overlong-skips,
  overlong-ends,
  digit-runs,
  hex-yes,
  hex-no,
)

-- ---- the tables, which cover ASCII

pub short_table : (c : ℕ) (none : Element) → c < 128 → get_or SHORT c none ≡ short c
short_table c none small = get_or-map-range_with_len short 0 128 c c none small (omega arith)

pub digit_table : (c none : ℕ) → c < 128 → get_or DIGITS c none ≡ min (digit_value c) 16
digit_table c none small = get_or-map-range_with_len (λ d. min (digit_value d) 16) 0 128 c c none small (omega arith)
