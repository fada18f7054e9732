use Rattle.std.proofs.Common.{ℕ, Bool, ◌≡◌, ◌+◌, ◌-◌, ◌≤◌, length, drop}
use Rattle.std.specs.List.{prefix_len}
use Rattle.rustc_lexer.proofs.scan.front_end.Given as goal

abbrev pub invariant-front : goal.invariant-front
invariant-front g l = record {
  run : (class : ℕ → Bool) → ((b : ℕ) (passes : Bool) → goal.F-post g l.test b passes → passes ≡ class b)
      → prefix_len class l.bytes ≡ l.end + prefix_len class (drop l.end l.bytes);
  inside : l.end ≤ length l.bytes;
}

abbrev pub decreases-front : goal.decreases-front
decreases-front g l = length l.bytes - l.end
