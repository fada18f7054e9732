use Rattle.std.proofs.{lemmas.Grind.{common_steps}, Common.{rules, arith}}
use Rattle.rustc_lexer.specs.laws.Fences.{blank_end, blank_on}
use Rattle.rustc_lexer.proofs.frontmatter.stands_alone.Goals as goal
use Rattle.rustc_lexer.proofs.frontmatter.stands_alone.Goals.{then-blanks-test+else-is_horizontal_whitespace}
use Rattle.rustc_lexer.proofs.frontmatter.stands_alone.Goals.{else-blanks-test}

pub blanks-preserved : goal.blanks-preserved
blanks-preserved c = grind (arith, common_steps, rules, blank_on)

pub returns-else-start-end : goal.returns-else-start-end
returns-else-start-end c = grind (arith, common_steps, rules, blank_end, else-blanks-test)
