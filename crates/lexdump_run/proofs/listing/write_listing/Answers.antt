use Rattle.std.proofs.{Common.{ap, arith}, lemmas.Grind.{common_steps}}
use Rattle.lexdump_run.proofs.OutcomeLemmas.{finished}
use Rattle.lexdump_run.proofs.listing.write_listing.Goals as goal

pub returns : goal.returns
returns g c =
    let out = finished g.W.Write.contents _ _ c.new-lines.ensures.none _ _ _ _ _
    (ap (λ w. g.W.Write.contents w.inner) c.new-lines.ensures.output)
    (grind (arith, common_steps)) c.in_ok-push_lines.ensures c.finish.ensures.pushed c.finish.ensures.empty in
    record {
      write = grind (arith, common_steps);
      failed = grind (arith, common_steps);
      flushed = grind (arith, common_steps);
      whole = out.0;
      front = out.1;
    }
