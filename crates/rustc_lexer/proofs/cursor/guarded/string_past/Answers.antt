use Rattle.std.proofs.Common.{arith}
use Rattle.rustc_lexer.proofs.lemmas.tokens.{Guarded.{string_boundary, string_here}, Raw.{hash_boundary}}
use Rattle.rustc_lexer.proofs.cursor.guarded.string_past.Goals as goal

pub range_from-requires : goal.range_from-requires
range_from-requires c = λ some. hash_boundary _ c.utf8.rest c.args.n_hashes (omega (arith, c.requires))

pub returns-clause-read : goal.returns-clause-read
returns-clause-read c =
    string_here _ _ _ c.utf8.rest c.requires c.range_from.ensures.value _ _ _ c.in_ok-body.ensures.1
    c.guarded_body-end.ensures.read c.in_ok-body.ensures.0

pub returns-clause-boundary : goal.returns-clause-boundary
returns-clause-boundary c =
    string_boundary _ _ _ c.utf8.rest c.requires c.range_from.ensures.value _ _ _ c.in_ok-body.ensures.1
    c.guarded_body-end.ensures.read
