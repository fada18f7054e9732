-- The number that the scanner reads has the form of a number.
use Rattle.std.proofs.Common.{◌≡◌, ℕ, suc, ◌+◌, ◌==◌, not, Bool, true, false, true≢false, if◌then◌else◌, List, [], ◌∷◌}
use Rattle.std.proofs.Common.{◌++◌, take, drop, refl, sym, ap, ◌∙◌, subst, take-add, drop-drop, arith, codes}
use Rattle.std.proofs.lemmas.{Bool.{and_parts, eqb-true, not-true, or_parts}, List.{append-nil}}
use Rattle.std.specs.{Char.{is_ascii_digit}, List.{list_any}, Str.{byte}}
use Rattle.std.proofs.lemmas.Grind.{common_steps}
use Rattle.rustc_lexer.specs.{Base, LiteralKind, Binary, Octal, Hexadecimal, Int, Float}
use Rattle.rustc_lexer.specs.laws.Choice.{by_test}
use Rattle.rustc_lexer.specs.laws.Reach.{run_all}
use Rattle.rustc_lexer.specs.model.Number.{or_underscore, is_underscore, digits, IntegerPart, prefixed, binary, octal}
use Rattle.rustc_lexer.specs.model.Number.{hexadecimal, decimal, part_past_zero, integer_part, is_exponent_letter}
use Rattle.rustc_lexer.specs.model.Number.{is_sign, past_sign, float_exponent, optional_exponent, fraction_digits}
use Rattle.rustc_lexer.specs.model.Number.{fraction, is_no_fraction, begins_fraction, past_digits, tail, number_kind}
use Rattle.rustc_lexer.specs.NumberGrammar.{AreDigits, is_digit_of, IsWholePart, plain, with_b, with_o, with_x}
use Rattle.rustc_lexer.specs.NumberGrammar.{IsExponent, signed, unsigned, IsTailBefore, nothing, dot, of_fraction}
use Rattle.rustc_lexer.specs.NumberGrammar.{of_exponent, of_both, HasNumberForm, of_prefix, of_parts}
use Rattle.rustc_lexer.specs.model.Scan.{after, begins, gives, next_is, read_as, run_len}

-- One character and the next n characters are the first n + 1 characters.
take-one : (c n : ℕ) (s : List ℕ) → c ∷ take n s ≡ take (1 + n) (c ∷ s)
take-one c n s = let one : suc n ≡ 1 + n = omega arith in ap (λ (k : ℕ). take k (c ∷ s)) one

drop-one : (c n : ℕ) (s : List ℕ) → drop n s ≡ drop (1 + n) (c ∷ s)
drop-one c n s = let one : suc n ≡ 1 + n = omega arith in ap (λ (k : ℕ). drop k (c ∷ s)) one

-- ---- the text after the whole part

float_exponent-is : (base : Base) (e : ℕ) (s : List ℕ) → is_exponent_letter e ≡ true
    → IsExponent base (float_exponent base s).0 (e ∷ take (float_exponent base s).1 s)
float_exponent-is base e s letter =
    by_test (λ (r : LiteralKind × ℕ). IsExponent base r.0 (e ∷ take r.1 s)) (next_is is_sign s)
    (after 1 (past_sign base) s) (past_sign base s) (at_sign s)
    (λ t. unsigned letter (run_all (or_underscore is_ascii_digit) s))
  where
    at_sign : (s : List ℕ) → next_is is_sign s ≡ true
        → IsExponent base (after 1 (past_sign base) s).0 (e ∷ take (after 1 (past_sign base) s).1 s)
    at_sign [] t = absurd (true≢false (sym t))
    at_sign (g ∷ s) t =
        subst (λ (xs : List ℕ). IsExponent base (past_sign base s).0 (e ∷ xs)) (take-one g (past_sign base s).1 s)
        (signed letter t (run_all (or_underscore is_ascii_digit) s))

-- After a fraction, an exponent or nothing is read.
optional_exponent-is : (next : List ℕ) (base : Base) (d : ℕ) (ds s : List ℕ) → is_ascii_digit d ≡ true
    → AreDigits is_ascii_digit ds
    → IsTailBefore next base (optional_exponent base s).0 (46 ∷ d ∷ ds ++ take (optional_exponent base s).1 s)
optional_exponent-is next base d ds s digit are =
    by_test (λ (r : LiteralKind × ℕ). IsTailBefore next base r.0 (46 ∷ d ∷ ds ++ take r.1 s))
    (next_is is_exponent_letter s) (after 1 (float_exponent base) s) (gives (Float base false) s) (at_letter s)
    (λ t. subst (λ (xs : List ℕ). IsTailBefore next base (Float base false) (46 ∷ d ∷ xs)) (sym (append-nil ds))
    (of_fraction digit are))
  where
    at_letter : (s : List ℕ) → next_is is_exponent_letter s ≡ true
        → IsTailBefore next base (after 1 (float_exponent base) s).0
        (46 ∷ d ∷ ds ++ take (after 1 (float_exponent base) s).1 s)
    at_letter [] t = absurd (true≢false (sym t))
    at_letter (e ∷ s) t = subst (λ (xs : List ℕ). IsTailBefore next base (float_exponent base s).0 (46 ∷ d ∷ ds ++ xs))
        (take-one e (float_exponent base s).1 s) (of_both ds digit are (float_exponent-is base e s t))

-- A dot is read with the text after it, if this starts neither with a dot nor with a name.
fraction-is : (base : Base) (s : List ℕ) → next_is is_no_fraction s ≡ false
    → IsTailBefore (drop (fraction base s).1 s) base (fraction base s).0 (46 ∷ take (fraction base s).1 s)
unfolding fraction
fraction-is base s free =
    by_test (λ (r : LiteralKind × ℕ). IsTailBefore (drop r.1 s) base r.0 (46 ∷ take r.1 s)) (next_is is_ascii_digit s)
    (fraction_digits base s) (gives (Float base false) s) (at_digit (drop (fraction_digits base s).1 s) s)
    (λ t. dot free)
  where
    at_digit : (next s : List ℕ) → next_is is_ascii_digit s ≡ true
        → IsTailBefore next base (fraction_digits base s).0 (46 ∷ take (fraction_digits base s).1 s)
    at_digit next [] t = absurd (true≢false (sym t))
    at_digit next (d ∷ s) t =
        let n : ℕ = run_len (or_underscore is_ascii_digit) s in
        let m : ℕ = (optional_exponent base (drop n s)).1 in
        let more : run_len (or_underscore is_ascii_digit) (d ∷ s) ≡ suc n = rw t refl in
        let sum : suc n + m ≡ suc (n + m) = omega arith in
        let read : fraction_digits base (d ∷ s) ≡ ((optional_exponent base (drop n s)).0, suc n + m) =
        ap
        (λ (k : ℕ). ((optional_exponent base (drop k (d ∷ s))).0, k + (optional_exponent base (drop k (d ∷ s))).1))
        more in
        let is : IsTailBefore next base (optional_exponent base (drop n s)).0 (46 ∷ d ∷ take n s ++ take m (drop n s)) =
        optional_exponent-is next base d (take n s) (drop n s) t (run_all (or_underscore is_ascii_digit) s) in
        let text : take n s ++ take m (drop n s) ≡ take (n + m) s = sym (take-add n m s) in
        subst (λ (r : LiteralKind × ℕ). IsTailBefore next base r.0 (46 ∷ take r.1 (d ∷ s))) (sym read)
        (subst (λ (k : ℕ). IsTailBefore next base (optional_exponent base (drop n s)).0 (46 ∷ take k (d ∷ s))) (sym sum)
        (subst (λ (xs : List ℕ). IsTailBefore next base (optional_exponent base (drop n s)).0 (46 ∷ d ∷ xs)) text
        is))

-- After the digits, the text is read as the tail of a number, if no digit of the base is next.
past_digits-is : (base : Base) (s : List ℕ) → next_is (is_digit_of base) s ≡ false
    → IsTailBefore (drop (past_digits base s).1 s) base (past_digits base s).0 (take (past_digits base s).1 s)
past_digits-is base s stops = by_test (λ (r : LiteralKind × ℕ). IsTailBefore (drop r.1 s) base r.0 (take r.1 s))
    (begins_fraction s) (after 1 (fraction base) s) _ (at_dot s)
    (λ t. by_test (λ (r : LiteralKind × ℕ). IsTailBefore (drop r.1 s) base r.0 (take r.1 s))
    (next_is is_exponent_letter s) (after 1 (float_exponent base) s) (gives (Int base false) s)
    (at_letter (drop (after 1 (float_exponent base) s).1 s) s stops) (λ t. nothing))
  where
    at_dot : (s : List ℕ) → begins_fraction s ≡ true
        → IsTailBefore (drop (after 1 (fraction base) s).1 s) base (after 1 (fraction base) s).0
        (take (after 1 (fraction base) s).1 s)
    at_dot [] t = absurd (true≢false (sym t))
    at_dot (c ∷ s) t =
        let parts = and_parts (begins (codes ".") (c ∷ s)) (not (next_is is_no_fraction s)) t in
        let dot_is : c ≡ 46 = eqb-true c 46 (and_parts (c == 46) true parts.0).0 in
        let is : IsTailBefore (drop (fraction base s).1 s) base (fraction base s).0 (46 ∷ take (fraction base s).1 s) =
        fraction-is base s (not-true (next_is is_no_fraction s) parts.1) in
        subst (λ (next : List ℕ). IsTailBefore next base (fraction base s).0 (take (1 + (fraction base s).1) (c ∷ s)))
        (drop-one c (fraction base s).1 s)
        (subst (λ (xs : List ℕ). IsTailBefore (drop (fraction base s).1 s) base (fraction base s).0 xs)
        (ap (λ x. x ∷ take (fraction base s).1 s) (sym dot_is) ∙ take-one c (fraction base s).1 s) is)

    at_letter : (next s : List ℕ) → next_is (is_digit_of base) s ≡ false → next_is is_exponent_letter s ≡ true
        → IsTailBefore next base (after 1 (float_exponent base) s).0 (take (after 1 (float_exponent base) s).1 s)
    at_letter next [] stops t = absurd (true≢false (sym t))
    at_letter next (e ∷ s) stops t = subst (λ (xs : List ℕ). IsTailBefore next base (float_exponent base s).0 xs)
        (take-one e (float_exponent base s).1 s) (of_exponent stops (float_exponent-is base e s t))

-- ---- the whole part

-- Holds if the result is the whole part of a number with its first digit, and the text after it does not start with a
-- digit of the base.
abbrev Whole : List ℕ → IntegerPart × ℕ → Type 0
Whole s r = IsWholePart r.0.base r.0.empty_int (48 ∷ take r.1 s) × (next_is (is_digit_of r.0.base) (drop r.1 s) ≡ false)

-- A run of digits and underscores does not end before a digit.
run-stops : (is_digit : ℕ → Bool) (s : List ℕ) → next_is is_digit (drop (run_len (or_underscore is_digit) s) s) ≡ false
run-stops is_digit [] = refl
run-stops is_digit (c ∷ s) = by_test (λ n. next_is is_digit (drop n (c ∷ s)) ≡ false) (or_underscore is_digit c)
    (suc (run_len (or_underscore is_digit) s)) 0 (λ t. run-stops is_digit s)
    (λ t. (or_parts (is_digit c) (is_underscore c) t).0)

-- The prefix of a base is read with its digits.
past_prefix-is : (letter : ℕ) (base : Base)
    → ((ds : List ℕ) → AreDigits (is_digit_of base) ds
    → IsWholePart base (not (list_any (is_digit_of base) ds)) (48 ∷ letter ∷ ds))
    → (s : List ℕ) → begins (letter ∷ []) s ≡ true
    → Whole s (after 1 (read_as (prefixed base) (digits (is_digit_of base))) s)
past_prefix-is letter base w0 s w1 =
    grind (arith, common_steps, eqb-true, and_parts, take-one, run_all, drop-one, run-stops)

integer_part-is : (first : ℕ) (s : List ℕ) → is_ascii_digit first ≡ true
    → IsWholePart (integer_part first s).0.base (integer_part first s).0.empty_int
    (first ∷ take (integer_part first s).1 s)
    × (next_is (is_digit_of (integer_part first s).0.base) (drop (integer_part first s).1 s) ≡ false)
integer_part-is first s digit =
    by_test (λ (r : IntegerPart × ℕ). IsWholePart r.0.base r.0.empty_int (first ∷ take r.1 s)
    × (next_is (is_digit_of r.0.base) (drop r.1 s) ≡ false)) (first == byte "0") (part_past_zero s) (decimal s)
    at_zero (λ t. (plain digit (run_all (or_underscore is_ascii_digit) s), run-stops is_ascii_digit s))
  where
    past_zero-is : Whole s (part_past_zero s)
    past_zero-is =
        by_test (Whole s) (begins (codes "b") s) (after 1 binary s) _ (past_prefix-is 98 Binary (λ ds. with_b) s)
        (λ t. by_test (Whole s) (begins (codes "o") s) (after 1 octal s) _ (past_prefix-is 111 Octal (λ ds. with_o) s)
        (λ t. by_test (Whole s) (begins (codes "x") s) (after 1 hexadecimal s) (decimal s)
        (past_prefix-is 120 Hexadecimal (λ ds. with_x) s)
        (λ t. (plain refl (run_all (or_underscore is_ascii_digit) s), run-stops is_ascii_digit s))))

    at_zero : (first == byte "0") ≡ true
        → IsWholePart (part_past_zero s).0.base (part_past_zero s).0.empty_int (first ∷ take (part_past_zero s).1 s)
        × (next_is (is_digit_of (part_past_zero s).0.base) (drop (part_past_zero s).1 s) ≡ false)
    at_zero t = (
      subst (λ (x : ℕ). IsWholePart (part_past_zero s).0.base (part_past_zero s).0.empty_int
          (x ∷ take (part_past_zero s).1 s)) (sym (eqb-true first 48 t)) past_zero-is.0,
      past_zero-is.1,
    )

-- ---- a number

-- Up to its suffix, the text that is read has the form of a number.
pub number-form : (first : ℕ) (s : List ℕ) → is_ascii_digit first ≡ true
    → HasNumberForm (drop (number_kind first s).1 s) (number_kind first s).0 (first ∷ take (number_kind first s).1 s)
unfolding number_kind
number-form first s digit =
    subst (λ (xs : List ℕ). HasNumberForm (drop (n + m) s) (tail f left).0 (first ∷ xs)) (sym (take-add n m s))
    (subst (λ (next : List ℕ). HasNumberForm next (tail f left).0 (first ∷ take n s ++ take m left)) (drop-drop m n s)
    (by_empty f.empty_int (integer_part-is first s digit).0))
  where
    f : IntegerPart
    f = (integer_part first s).0

    n : ℕ
    n = (integer_part first s).1

    left : List ℕ
    left = drop n s

    m : ℕ
    m = (tail f left).1

    by_empty : (b : Bool) → IsWholePart f.base b (first ∷ take n s)
        → HasNumberForm (drop (if b then gives (Int f.base true) left else past_digits f.base left).1 left)
        (if b then gives (Int f.base true) left else past_digits f.base left).0
        (first ∷ take n s ++ take (if b then gives (Int f.base true) left else past_digits f.base left).1 left)
    by_empty true whole = subst (λ (xs : List ℕ). HasNumberForm left (Int f.base true) (first ∷ xs))
        (sym (append-nil (take n s))) (of_prefix whole)
    by_empty false whole = of_parts whole (past_digits-is f.base left (integer_part-is first s digit).1)
