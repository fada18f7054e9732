use Rattle.std.proofs.{Common.{◌+◌, ◌∷◌, arith}, lemmas.List.{take_rest}}
use Rattle.rustc_lexer.proofs.lemmas.tokens.Search.{at_start, past_end, past_found, past_on}
use Rattle.rustc_lexer.proofs.frontmatter.find_pattern.Goals as goal

pub places-init : goal.places-init
places-init c = at_start (c.args.first ∷ c.args.more.now) c.args.rest.now

pub returns-then-starts_with-clause-offset : goal.returns-then-starts_with-clause-offset
returns-then-starts_with-clause-offset c =
    past_found _ _ _ _ _ c.places.invariant (take_rest c.args.rest.now c.places.from) c.in-Some.step c.in-Some.ensures
    _ (take_rest c.args.rest.now (c.places.from + c.in-Some.step + 1)) _ c.starts_with.ensures.value
    c.if-starts_with.true _ (omega arith)

pub places-preserved : goal.places-preserved
places-preserved c =
    past_on _ _ _ _ _ c.places.invariant (take_rest c.args.rest.now c.places.from) c.in-Some.step c.in-Some.ensures _
    (take_rest c.args.rest.now (c.places.from + c.in-Some.step + 1)) _ c.starts_with.ensures.value
    c.if-starts_with.false

pub returns-clause-offset : goal.returns-clause-offset
returns-clause-offset c =
    past_end _ _ _ _ _ c.places.invariant (take_rest c.args.rest.now c.places.from) c.in_default.ensures
