use Rattle.std.proofs.{lemmas.Grind.{common_steps}, Common.{arith, inr, refl, rules}}
use Rattle.rustc_lexer.specs.{E2021}
use Rattle.rustc_lexer.proofs.lemmas.tokens.Editions.{first_newer}
use Rattle.rustc_lexer.proofs.edition.choose_before_2021.Goals as goal

pub returns-in_default : goal.returns-in_default
returns-in_default c =
    grind (
      arith,
      common_steps,
      rules,
      c.choose_token-token.ensures.token,
      first_newer E2021 c.args.rest.now c.requires.no_hash (inr refl),
    )
