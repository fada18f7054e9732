use Rattle.std.proofs.Common.{ap}
use Rattle.lexdump_run.proofs.{ListingLemmas.{lines}, PushLemmas.{pushing_first, pushing_stopped}}
use Rattle.lexdump_run.proofs.listing.list_pieces.Goals as goal

pub loop-piece-preserved : goal.loop-piece-preserved
loop-piece-preserved g c =
    pushing_first c.loop-piece.invariant (ap lines c.in-Some.ensures.steps.0) c.in_ok-push_line.ensures

pub returns-in_err-push_line : goal.returns-in_err-push_line
returns-in_err-push_line g c =
    pushing_stopped _ _ c.loop-piece.invariant (ap lines c.in-Some.ensures.steps.0)
    c.in_err-push_line.ensures c.from_residual.ensures.1
