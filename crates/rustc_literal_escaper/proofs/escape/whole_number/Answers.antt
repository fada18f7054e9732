use Rattle.std.proofs.Common.{◌<◌, ◌^◌, ◌∷◌, [], ◌++◌, List, ℕ, sym, ap, ◌∙◌, arith}
use Rattle.rustc_literal_escaper.proofs.DigitLemmas.{left_at, with_digit_fits, with_room}
use Rattle.rustc_literal_escaper.proofs.WholeLemmas.{all_more, digit_ascii, read_digit}
use Rattle.rustc_literal_escaper.proofs.escape.whole_number.Goals as goal

pub overflow_mul-value : goal.overflow_mul-value
overflow_mul-value c = let room : c.digits.value < 16 ^ 5 =
    with_room _ _ c.digits.invariant.3 c.digits.invariant.2 c.if-count-eq-MOST_DIGITS.false in omega arith

pub overflow_add-value : goal.overflow_add-value
overflow_add-value c = let room : c.digits.value < 16 ^ 5 =
    with_room _ _ c.digits.invariant.3 c.digits.invariant.2 c.if-count-eq-MOST_DIGITS.false in
    omega (arith, c.in-Some-hex_digit.ensures.0, c.in-Some-hex_digit.ensures.1)

pub digits-preserved : goal.digits-preserved
digits-preserved c =
    let few = c.digits.invariant.2 in
    let more = c.if-count-eq-MOST_DIGITS.false in
    let digit : c.in-Some-hex_digit.digit < 16 = omega (arith, c.in-Some-hex_digit.ensures.0, c.in-Some-hex_digit.ensures.1) in (
      read_digit _ _ _ _ _ c.in-Some-hex_digit.ensures.0 c.in-Some-hex_digit.ensures.1 few more
          ∙ (ap (λ (xs : List ℕ). left_at c.digits.value c.digits.count (xs ++ (125 ∷ []))) (sym c.in-Some.ensures.cases.0)
          ∙ c.digits.invariant.0),
      λ all. c.digits.invariant.1
          (all_more c.in-Some.byte.now _ _ c.in-Some.ensures.cases.0 (digit_ascii _ c.in-Some-hex_digit.ensures.0) all),
      omega (arith, few, more),
      with_digit_fits _ _ _ c.digits.invariant.3 digit,
    )
