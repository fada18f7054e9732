use Rattle.std.proofs.{lemmas.Grind.{common_steps}, Common.{arith, rules}}
use Rattle.rustc_lexer.specs.{model.ByteRuns.{is_continue_byte}, Classes.{is_id_continue}}
use Rattle.rustc_lexer.proofs.lemmas.tokens.{AsciiRuns.{may_cut, goes_on, stops_here}, ClassParts.{continue_part}}
use Rattle.rustc_lexer.proofs.scan.eat_continue.Goals as goal

pub range_from-left-requires : goal.range_from-left-requires
range_from-left-requires c =
    λ some. may_cut is_continue_byte is_id_continue continue_part _ _ _ c.utf8.rest c.as_bytes.ensures.value
    c.short_run_end.ensures.value

pub returns-then-begins_wide-clause-past : goal.returns-then-begins_wide-clause-past
returns-then-begins_wide-clause-past c =
    goes_on is_continue_byte is_id_continue continue_part _ _ _ c.utf8.rest c.as_bytes.ensures.value
    c.short_run_end.ensures.value _ c.range_from-left.ensures.value _
    (c.eat_while.ensures.past is_id_continue (λ d b e. e))

pub returns-else-begins_wide-clause-past : goal.returns-else-begins_wide-clause-past
returns-else-begins_wide-clause-past c = grind (arith, common_steps, rules, stops_here, continue_part)
