use Rattle.rustc_lexer.proofs.lemmas.joined.FinalBoundary.{final_place}
use Rattle.rustc_lexer.proofs.relex.joined.settled_before.Goals as goal

pub has_two_chars_between-requires-clause-from_boundary : goal.has_two_chars_between-requires-clause-from_boundary
has_two_chars_between-requires-clause-from_boundary c =
    final_place c.args.edition _ _ record { utf8 = c.utf8.text; fits = c.requires.fits }
    c.requires.settled
