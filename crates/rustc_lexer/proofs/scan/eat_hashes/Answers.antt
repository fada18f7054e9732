use Rattle.rustc_lexer.specs.model.Raw.{is_hash}
use Rattle.rustc_lexer.proofs.lemmas.tokens.{AsciiRuns.{may_cut_small, past_small}, Hashes.{hash-small}}
use Rattle.rustc_lexer.proofs.scan.eat_hashes.Goals as goal

pub range_from-requires : goal.range_from-requires
range_from-requires c = λ some. may_cut_small is_hash hash-small _ _ _ c.utf8.rest c.as_bytes.ensures.value
    (c.front_end.ensures.value is_hash (λ b passes e. e))

pub returns-clause-past : goal.returns-clause-past
returns-clause-past c = past_small is_hash hash-small _ _ _ c.utf8.rest c.as_bytes.ensures.value
    (c.front_end.ensures.value is_hash (λ b passes e. e)) _ c.range_from.ensures.value
