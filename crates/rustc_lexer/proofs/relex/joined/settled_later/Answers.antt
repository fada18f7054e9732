use Rattle.std.proofs.Common.{arith, length-drop}
use Rattle.rustc_lexer.specs.Classes.{IsText}
use Rattle.rustc_lexer.proofs.lemmas.joined.FinalBoundary.{final_on, final_place}
use Rattle.rustc_lexer.proofs.relex.joined.settled_later.Goals as goal

pub range_from-requires : goal.range_from-requires
range_from-requires c =
    λ some. final_place c.args.edition _ _ record { utf8 = c.utf8.text; fits = c.requires.fits }
    c.requires.settled

pub settled_in-requires : goal.settled_in-requires
settled_in-requires c =
    rw c.range_from.ensures.value record
    { fits = omega (arith, c.requires.fits, length-drop c.args.settled c.args.text.now) }

pub overflow_add-result : goal.overflow_add-result
overflow_add-result c =
    let is : IsText c.args.text.now = record { utf8 = c.utf8.text; fits = c.requires.fits } in
    let settled = final_on c.args.edition is c.requires.settled
    (rw c.range_from.ensures.value at c.settled_in.ensures.settled) in
    omega (arith, (final_place c.args.edition _ _ is settled).0, is.fits)

pub returns : goal.returns
returns c = final_on c.args.edition record
    { utf8 = c.utf8.text; fits = c.requires.fits } c.requires.settled
    (rw c.range_from.ensures.value at c.settled_in.ensures.settled)
