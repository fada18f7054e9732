use Rattle.std.proofs.{Common.{arith, rules}, lemmas.Grind.{common_steps}}
use Rattle.rustc_lexer_errors.proofs.SingleErrorLemmas.{error_found}
use Rattle.rustc_lexer_errors.proofs.escape_errors_in_file.error_in_quotes.Goals as goal

pub returns-in_err-error : goal.returns-in_err-error
returns-in_err-error c =
    let found = error_found c.args.mode c.args.inside.now _ c.utf8.inside c.requires.single c.single_error.ensures in
    grind (arith, common_steps, rules)

pub returns : goal.returns
returns c =
    let found = error_found c.args.mode c.args.inside.now _ c.utf8.inside c.requires.single c.single_error.ensures in
    grind (arith, common_steps, rules)
