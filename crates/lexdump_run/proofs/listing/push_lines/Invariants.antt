use Rattle.std.proofs.Common.{◌≡◌, ◌+◌, drop}
use Rattle.rustc_lexer.specs.Tokens.{bound}
use Rattle.lexdump_run.specs.Listing.{listing_from}
use Rattle.lexdump_run.proofs.PushLemmas.{Pushing}
use Rattle.lexdump_run.proofs.listing.push_lines.Given as goal

abbrev pub invariant-loop-token : goal.invariant-loop-token
invariant-loop-token g l = record {
  place : l.place ≡ l.fn.start + bound l.tokens l.token-index;
  lines : Pushing g.W.Write.contents l.fn.lines l.lines (listing_from l.fn.start l.tokens)
      (listing_from l.place (drop l.token-index l.tokens));
}
