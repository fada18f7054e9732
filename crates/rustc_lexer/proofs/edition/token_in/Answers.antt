use Rattle.std.proofs.Common.{sym}
use Rattle.rustc_lexer.proofs.edition.token_in.Goals as goal

pub returns-in-Some-clause-token : goal.returns-in-Some-clause-token
returns-in-Some-clause-token c =
    rw c.as_bytes.ensures.value at (c.in-Some.ensures.token c.args.edition (sym c.reserves_guards.ensures))

pub choose_in-requires-clause-no_hash : goal.choose_in-requires-clause-no_hash
choose_in-requires-clause-no_hash c = rw c.as_bytes.ensures.value at c.in-None.ensures
