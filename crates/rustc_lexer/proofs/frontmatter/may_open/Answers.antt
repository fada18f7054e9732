use Rattle.std.proofs.{Common.{arith, rules}, lemmas.{Grind.{common_steps}, List.{take_rest}}}
use Rattle.rustc_lexer.proofs.lemmas.tokens.Frontmatter.{opens_not}
use Rattle.rustc_lexer.proofs.frontmatter.may_open.Goals as goal

pub returns-in_default : goal.returns-in_default
returns-in_default c = λ edition is_first _. opens_not edition c.args.text.now c.utf8.text c.args.token is_first
    (λ k. absurd (c.in_default.not-Whitespace k))
    (λ k. absurd (c.in_default.not-Minus k))

pub returns : goal.returns
returns c = λ edition is_first none. opens_not edition c.args.text.now c.utf8.text c.args.token is_first
    (λ k. grind (arith, common_steps, rules, take_rest))
    (λ k. grind (arith, common_steps, rules, take_rest))
