use Rattle.std.proofs.Common.{length}
use Rattle.lexdump_run.specs.Listing.{listing}
use Rattle.lexdump_run.proofs.{ListingLemmas.{lines}, PushLemmas.{Pushing}}
use Rattle.lexdump_run.proofs.listing.list_pieces.Given as goal

abbrev pub invariant-loop-piece : goal.invariant-loop-piece
invariant-loop-piece g l =
    Pushing g.W.Write.contents l.fn.lines l.lines (listing l.lexed.tokens) (lines l.piece-iterator)

abbrev pub decreases-loop-piece : goal.decreases-loop-piece
decreases-loop-piece g l = length l.piece-iterator
