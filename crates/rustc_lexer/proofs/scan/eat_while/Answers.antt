use Rattle.std.proofs.{Common.{sym, refl, ap, arith, ◌∙◌}, lemmas.Grind.{common_steps}}
use Rattle.rustc_lexer.specs.{model.Scan.{next_is}, laws.Past.{IsUtf8-cut}}
use Rattle.rustc_lexer.proofs.lemmas.tokens.Runs.{run_on, run_ends}
use Rattle.rustc_lexer.proofs.scan.eat_while.Goals as goal

pub chars-init : goal.chars-init
chars-init g c = (c.utf8.rest, omega arith, λ class tests. refl)

pub chars-preserved : goal.chars-preserved
chars-preserved g c = grind (arith, common_steps, IsUtf8-cut, run_on)

pub returns-then-not-test-clause-past : goal.returns-then-not-test-clause-past
returns-then-not-test-clause-past g c = λ class tests. sym (run_ends class _ c.chars.invariant.0
    (ap (next_is class) c.in-Some.ensures.0 ∙ (sym (tests _ _ c.test.ensures) ∙ c.if-not-test.true)))
    ∙ c.chars.invariant.2 class tests

pub returns-clause-past : goal.returns-clause-past
returns-clause-past g c =
    λ class tests. sym (run_ends class _ c.chars.invariant.0 (ap (next_is class) c.in_default.ensures))
    ∙ c.chars.invariant.2 class tests
