use Rattle.std.proofs.{Common.{ap, arith}, lemmas.List.{drop_more}}
use Rattle.lexdump_run.specs.Listing.{listing_from}
use Rattle.rustc_lexer.proofs.lemmas.edits.Offsets.{ahead_fits, ahead_is}
use Rattle.lexdump_run.proofs.PushLemmas.{pushing_first, pushing_stopped}
use Rattle.lexdump_run.proofs.listing.push_lines.Goals as goal

pub overflow_add-place : goal.overflow_add-place
overflow_add-place g c =
    record {
      fits = ahead_fits _ _ _ _ _ c.loop-token.invariant.place c.loop-token-test.true c.requires _ (omega arith);
    }

pub loop-token-preserved : goal.loop-token-preserved
loop-token-preserved g c = record {
  place = ahead_is _ _ _ _ _ c.loop-token.invariant.place c.loop-token-test.true;
  lines = pushing_first c.loop-token.invariant.lines
      (ap (listing_from c.loop-token.place)
      (drop_more _ _ _ c.loop-token-test.true)) c.in_ok-push_line.ensures;
}

pub returns-in_err-push_line : goal.returns-in_err-push_line
returns-in_err-push_line g c =
    pushing_stopped _ _ c.loop-token.invariant.lines
    (ap (listing_from c.loop-token.place)
    (drop_more _ _ _ c.loop-token-test.true)) c.in_err-push_line.ensures
    c.from_residual.ensures.1
