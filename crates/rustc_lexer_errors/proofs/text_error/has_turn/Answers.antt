use Rattle.std.proofs.{Common.{rules}, lemmas.{Iterator.{YieldsList-from_chars, Search.{any_from_yields_List}}}}
use Rattle.rustc_lexer_errors.specs.TextError.{turns_direction}
use Rattle.rustc_lexer_errors.proofs.text_error.has_turn.Goals as goal

pub returns : goal.returns
returns c =
    any_from_yields_List turns_direction _ _ c.any.result c.any.ensures.ran
    (YieldsList-from_chars c.args.text.now (search rules) c.chars.ensures.rest) (λ x b q k. search (rules))
