use Rattle.std.proofs.Common.{◌≡◌, ◌≤◌, ◌-◌, length, take, drop}
use Rattle.rustc_lexer_c.proofs.escapes.fill_all.Given as goal

abbrev pub invariant-passed : goal.invariant-passed
invariant-passed g l = record {
  left : g.U.Units.units l.units ≡ drop l.over (g.U.Units.units l.fn.units);
  low : l.over ≤ l.passed;
}

abbrev pub invariant-buffer : goal.invariant-buffer
invariant-buffer g l = record {
  left : g.U.Units.units l.units ≡ drop l.count (drop l.fn.passed (g.U.Units.units l.fn.units));
  few : l.count ≤ length (drop l.fn.passed (g.U.Units.units l.fn.units));
  within : l.count ≤ length l.buffer;
  front : take l.count l.buffer ≡ take l.count (drop l.fn.passed (g.U.Units.units l.fn.units));
  back : drop l.count l.buffer ≡ drop l.count l.fn.buffer;
}

abbrev pub decreases-passed : goal.decreases-passed
decreases-passed g l = l.passed - l.over

abbrev pub decreases-buffer : goal.decreases-buffer
decreases-buffer g l = length l.buffer - l.count
