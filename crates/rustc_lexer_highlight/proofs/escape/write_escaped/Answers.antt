use Rattle.std.proofs.Common.{◌≡◌, ◌-◌, arith, Some, refl}
use Rattle.rustc_lexer_highlight.specs.Escape.{entity}
use Rattle.rustc_lexer_highlight.proofs.EscapeLemmas.{writes_special}
use Rattle.rustc_lexer_highlight.proofs.escape.write_escaped.Goals as goal

pub loop-at-preserved : goal.loop-at-preserved
loop-at-preserved g c =
    let found = rw c.as_bytes.ensures.value at c.in-Some.ensures in
    let name = rw c.as_bytes-in-Some.ensures.value at c.entity.ensures in
    let all : c.in-Some.at - 0 ≡ c.in-Some.at = omega arith in
    let front = rw all at c.range.ensures.value in
    record {
      utf8 = c.range_from-rest.utf8;
      left = λ w more. c.loop-at.invariant.left w
          (writes_special g.W.Write.write_str_gives _ _ _ w _ _ _ _ _ found front name c.range_from-rest.ensures.value
          (c.in_ok-write_str.ensures.ok refl) (c.in_ok-write_str-2.ensures.ok refl) more);
    }
