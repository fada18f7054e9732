use Rattle.std.proofs.Common.{◌^◌, ◌<◌, ◌∙◌, ap, sym, arith}
use Rattle.rustc_literal_escaper.proofs.DigitLemmas.{hex-yes, left_at, left_at-few, with_digit_fits, with_room}
use Rattle.rustc_literal_escaper.proofs.escape.digits.Goals as goal

pub overflow_mul-value : goal.overflow_mul-value
overflow_mul-value g c = let room : c.digits.value < 16 ^ 5 =
    with_room _ _ c.digits.invariant.2 c.digits.invariant.3 c.if-count-eq-MOST_DIGITS.false in omega arith

pub overflow_add-value : goal.overflow_add-value
overflow_add-value g c = let room : c.digits.value < 16 ^ 5 =
    with_room _ _ c.digits.invariant.2 c.digits.invariant.3 c.if-count-eq-MOST_DIGITS.false in
    let digit : c.in-Some-hex_digit.digit < 16 = rw c.in-Some-hex_digit.ensures.1 c.in-Some-hex_digit.ensures.0 in
    omega arith

pub digits-preserved : goal.digits-preserved
digits-preserved g c = let is_digit = c.in-Some-hex_digit.ensures.0 in
    let few = c.digits.invariant.3 in
    let more = c.if-count-eq-MOST_DIGITS.false in (
      c.next_char.ensures.same ∙ c.digits.invariant.0,
      rw c.in-Some-hex_digit.ensures.1
          (sym (left_at-few _ _ c.in-Some.c _ (hex-yes c.in-Some.c is_digit) few more)
          ∙ ap (left_at _ _) (sym c.in-Some.ensures.left)
          ∙ c.digits.invariant.1),
      with_digit_fits _ _ _ c.digits.invariant.2 (rw c.in-Some-hex_digit.ensures.1 is_digit),
      omega (arith, few, more),
    )
