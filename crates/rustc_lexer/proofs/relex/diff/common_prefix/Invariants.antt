use Rattle.std.proofs.Common.{◌≤◌, ◌-◌, ℕ, length, IsCharBoundary}
use Rattle.rustc_lexer.specs.model.Relexer.{IsCommonPrefix}
use Rattle.rustc_lexer.proofs.relex.diff.common_prefix.Given as goal

abbrev pub invariant-halves : goal.invariant-halves
invariant-halves l = record {
  less : l.front ≤ l.end;
  in_old : l.end ≤ length l.old;
  in_new : l.end ≤ length l.new;
  front : IsCommonPrefix l.old l.new l.front;
  longest : (n : ℕ) → IsCommonPrefix l.old l.new n → n ≤ l.end;
}

abbrev pub decreases-halves : goal.decreases-halves
decreases-halves l = l.end - l.front

abbrev pub invariant-chars : goal.invariant-chars
invariant-chars l = record {
  front : IsCommonPrefix l.old l.new l.front;
  longest : (n : ℕ) → IsCommonPrefix l.old l.new n → IsCharBoundary l.old n → n ≤ l.front;
}

abbrev pub decreases-chars : goal.decreases-chars
decreases-chars l = l.front
