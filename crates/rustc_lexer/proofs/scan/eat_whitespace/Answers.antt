use Rattle.std.proofs.{lemmas.Grind.{common_steps}, Common.{arith, rules}, lemmas.Bool.{not-true}}
use Rattle.rustc_lexer.specs.{model.ByteRuns.{is_space_byte}, Classes.{is_whitespace}}
use Rattle.rustc_lexer.proofs.lemmas.tokens.{AsciiRuns.{may_cut, goes_on}, ClassParts.{space_part}}
use Rattle.rustc_lexer.proofs.lemmas.tokens.WhiteSpace.{space_stops_here}
use Rattle.rustc_lexer.proofs.scan.eat_whitespace.Goals as goal

pub range_from-left-requires : goal.range_from-left-requires
range_from-left-requires c =
    λ some. may_cut is_space_byte is_whitespace space_part _ _ _ c.utf8.rest c.as_bytes.ensures.value
    c.run_end.ensures.value

pub returns-then-ends_space-clause-past : goal.returns-then-ends_space-clause-past
returns-then-ends_space-clause-past c = grind (arith, common_steps, rules, space_stops_here, not-true)

pub returns-else-ends_space-clause-past : goal.returns-else-ends_space-clause-past
returns-else-ends_space-clause-past c =
    goes_on is_space_byte is_whitespace space_part _ _ _ c.utf8.rest c.as_bytes.ensures.value c.run_end.ensures.value _
    c.range_from-left.ensures.value _ (c.eat_while.ensures.past is_whitespace (λ d b e. e))
