use Rattle.std.proofs.Common.{◌≡◌, ◌+◌, ◌-◌, arith, drop-drop, length-drop}
use Rattle.std.proofs.lemmas.Str.{IsCharBoundary-from_drop, IsUtf8-drop}
use Rattle.rustc_lexer.proofs.lemmas.joined.FinalBoundary.{near}
use Rattle.rustc_lexer.proofs.relex.joined.is_prefix_stable.Goals as goal

pub range_from-requires : goal.range_from-requires
range_from-requires c =
    λ some. (near c.args.edition record
    { utf8 = c.utf8.text; fits = c.requires.fits } c.requires.boundary c.requires.settled).boundary

pub overflow_sub-at : goal.overflow_sub-at
overflow_sub-at c =
    (near c.args.edition record { utf8 = c.utf8.text; fits = c.requires.fits }
    c.requires.boundary c.requires.settled).inside

pub is_token_boundary-requires-clause-boundary : goal.is_token_boundary-requires-clause-boundary
is_token_boundary-requires-clause-boundary c =
    let its = near c.args.edition record
    { utf8 = c.utf8.text; fits = c.requires.fits } c.requires.boundary
    c.requires.settled in
    let sum : c.args.settled + (c.args.at - c.args.settled) ≡ c.args.at = omega (arith, its.inside) in
    rw c.range_from.ensures.value (IsCharBoundary-from_drop _ (c.args.at - c.args.settled)
    (omega (arith, length-drop c.args.settled c.args.text.now, c.requires.boundary.0))
    (rw (drop-drop (c.args.at - c.args.settled) c.args.settled c.args.text.now, sum)
    (IsUtf8-drop _ c.args.at c.utf8.text c.requires.boundary)))

pub returns : goal.returns
returns c =
    let its = near c.args.edition record
    { utf8 = c.utf8.text; fits = c.requires.fits } c.requires.boundary
    c.requires.settled in
    let sum : c.args.settled + (c.args.at - c.args.settled) ≡ c.args.at = omega (arith, its.inside) in
    let answer = rw (c.range_from.ensures.value, drop-drop (c.args.at - c.args.settled) c.args.settled c.args.text.now, sum)
    at c.is_token_boundary.ensures.touch in
    (λ t. its.touch.1 (answer.0 t), λ touch. answer.1 (its.touch.0 touch))
