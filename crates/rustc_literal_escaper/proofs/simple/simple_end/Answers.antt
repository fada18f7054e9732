use Rattle.std.proofs.Common.{sym, ap, ◌∙◌, arith}
use lib.Count.{count_trailing_zeros}
use Rattle.rustc_literal_escaper.specs.model.Plain.{is_simple}
use Rattle.rustc_literal_escaper.proofs.LaneLemmas.{run_bound, run_stops}
use Rattle.rustc_literal_escaper.proofs.simple.simple_end.Goals as goal

pub returns-then-found-ne0 : goal.returns-then-found-ne0
returns-then-found-ne0 c =
    let run = run_stops (is_simple c.args.raw) c.args.bytes.now c.lanes.end 32 (omega arith) (omega arith)
    (omega (arith, c.stops-found.ensures)) ∙ ap (count_trailing_zeros 64) (sym c.stops-found.ensures) in
    record {
      simple = omega (arith, run, c.lanes.invariant.run);
      inside =
          omega (arith, run, run_bound (is_simple c.args.raw) c.args.bytes.now c.lanes.end c.lanes.invariant.inside);
    }
