use Rattle.std.proofs.Common.{◌≡◌, ◌+◌, ◌-◌, ◌≤◌, length, drop}
use Rattle.std.specs.List.{prefix_len}
use Rattle.rustc_literal_escaper.specs.model.Plain.{is_simple}
use Rattle.rustc_literal_escaper.proofs.simple.simple_end.Given as goal

abbrev pub invariant-lanes : goal.invariant-lanes
invariant-lanes l = record {
  run : prefix_len (is_simple l.raw) l.bytes ≡ l.end + prefix_len (is_simple l.raw) (drop l.end l.bytes);
  inside : l.end ≤ length l.bytes;
}

abbrev pub decreases-lanes : goal.decreases-lanes
decreases-lanes l = length l.bytes - l.end

abbrev pub invariant-bytes : goal.invariant-bytes
invariant-bytes l = record {
  run : prefix_len (is_simple l.raw) l.bytes ≡ l.end + prefix_len (is_simple l.raw) (drop l.end l.bytes);
  inside : l.end ≤ length l.bytes;
}

abbrev pub decreases-bytes : goal.decreases-bytes
decreases-bytes l = length l.bytes - l.end
