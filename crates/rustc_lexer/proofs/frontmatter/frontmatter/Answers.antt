use Rattle.std.proofs.{Common.{arith, rules}, lemmas.Grind.{common_steps}}
use Rattle.rustc_lexer.specs.laws.Frontmatter.{dashes_fence, opens-few, opens-line, opens-yes, frontmatter-is}
use Rattle.rustc_lexer.proofs.frontmatter.frontmatter.Goals as goal
use Rattle.rustc_lexer.proofs.frontmatter.frontmatter.Goals.{then-n_dashes-lt-MIN_DASHES-via-then-n_dashes-lt-MIN_DASHES}
use Rattle.rustc_lexer.proofs.frontmatter.frontmatter.Goals.{then-n_dashes-lt-MIN_DASHES-via-else-n_dashes-lt-MIN_DASHES+then-follows_newline}

pub returns-then-n_dashes-lt-MIN_DASHES : goal.returns-then-n_dashes-lt-MIN_DASHES
returns-then-n_dashes-lt-MIN_DASHES c =
    grind (
      arith,
      common_steps,
      rules,
      then-n_dashes-lt-MIN_DASHES-via-then-n_dashes-lt-MIN_DASHES,
      opens-few,
      opens-line,
    )

pub returns : goal.returns
returns c = grind (arith, common_steps, dashes_fence, opens-yes, frontmatter-is)
