use Rattle.std.proofs.Common.{◌≤◌, ◌+◌, ◌-◌, ℕ, length, IsCharBoundary}
use Rattle.rustc_lexer.specs.model.Relexer.{IsCommonSuffix}
use Rattle.rustc_lexer.proofs.relex.diff.common_suffix.Given as goal

abbrev pub invariant-halves : goal.invariant-halves
invariant-halves l = record {
  less : l.back ≤ l.most;
  in_old : l.start + l.most ≤ length l.old;
  in_new : l.start + l.most ≤ length l.new;
  back : IsCommonSuffix l.old l.new l.start l.back;
  longest : (n : ℕ) → IsCommonSuffix l.old l.new l.start n → n ≤ l.most;
}

abbrev pub decreases-halves : goal.decreases-halves
decreases-halves l = l.most - l.back

abbrev pub invariant-chars : goal.invariant-chars
invariant-chars l = record {
  back : IsCommonSuffix l.old l.new l.start l.back;
  longest : (n : ℕ) → IsCommonSuffix l.old l.new l.start n → IsCharBoundary l.old (length l.old - n) → n ≤ l.back;
}

abbrev pub decreases-chars : goal.decreases-chars
decreases-chars l = l.back
