use Rattle.std.proofs.Common.{◌∙◌, rules}
use Rattle.rustc_lexer.proofs.lemmas.tokens.Editions.{boundary-of, first_newer, first_oldest}
use Rattle.rustc_lexer.proofs.edition.choose_in.Goals as goal

pub returns-in-E2024-clause-token : goal.returns-in-E2024-clause-token
returns-in-E2024-clause-token c = c.choose_token.ensures.token
    ∙ first_newer c.args.edition c.args.rest.now c.requires.no_hash c.in-E2024.is

pub returns-in-E2018-clause-boundary : goal.returns-in-E2018-clause-boundary
returns-in-E2018-clause-boundary c = search (rules, boundary-of, first_oldest)
