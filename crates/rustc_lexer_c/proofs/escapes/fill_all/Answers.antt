use Rattle.std.proofs.{Common.{arith, rules}, lemmas.Grind.{common_steps}}
use Rattle.rustc_lexer_c.proofs.EscapeLemmas.{none_left, units_done}
use Rattle.rustc_lexer_c.proofs.BufferLemmas.{all_taken, count_first, count_second}
use Rattle.rustc_lexer_c.proofs.escapes.fill_all.Goals as goal

pub returns : goal.returns
returns g c = grind (arith, common_steps, rules, units_done, count_first, all_taken, count_second)

pub returns-then-is_none : goal.returns-then-is_none
returns-then-is_none g c =
    none_left _ _ _ _ _ _ _ c.passed.invariant.left
    c.passed.invariant.low (c.if-is_none.ensures) c.next_unit.ensures
