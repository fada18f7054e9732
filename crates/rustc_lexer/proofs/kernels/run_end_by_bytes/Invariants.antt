use Rattle.std.proofs.Common.{◌≡◌, ◌+◌, ◌-◌, ◌≤◌, length, drop}
use Rattle.std.specs.List.{prefix_len}
use Rattle.rustc_lexer.proofs.kernels.run_end_by_bytes.Given as goal

abbrev pub invariant-bytes : goal.invariant-bytes
invariant-bytes g l = record {
  run : prefix_len g.C.ByteClass.passes l.bytes ≡ l.end + prefix_len g.C.ByteClass.passes (drop l.end l.bytes);
  inside : l.end ≤ length l.bytes;
}

abbrev pub decreases-bytes : goal.decreases-bytes
decreases-bytes g l = length l.bytes - l.end
