use Rattle.std.proofs.Common.{◌≡◌, ◌-◌, ◌<◌, ◌^◌, false, length}
use Rattle.std.specs.Io.KnownBytes.{Consumes}
use Rattle.lexdump_run.proofs.reading.read_all.Given as goal

abbrev pub invariant-loop-count : goal.invariant-loop-count
invariant-loop-count g l = record {
  works : l.input.failed ≡ false;
  fits : length l.bytes.items < 2 ^ 32;
  taken : Consumes (g.R.Read.remaining l.fn.input.inner) (g.R.Read.remaining l.input.inner) l.bytes.items;
}

abbrev pub decreases-loop-count : goal.decreases-loop-count
decreases-loop-count g l = 2 ^ 32 - length l.bytes.items
