use Rattle.std.proofs.Common.{◌≡◌, ◌≤◌, ◌-◌, true, drop, take}
use Rattle.rustc_lexer.specs.model.Frontmatter.{blank_over}
use Rattle.rustc_lexer.proofs.frontmatter.stands_alone.Given as goal

abbrev pub invariant-blanks : goal.invariant-blanks
invariant-blanks l = record {
  past_end : l.end ≤ l.start;
  before : l.start ≤ l.offset;
  same : blank_over true (take (l.offset - l.end) (drop l.end l.rest)) ≡
      blank_over true (take (l.start - l.end) (drop l.end l.rest));
}

abbrev pub decreases-blanks : goal.decreases-blanks
decreases-blanks l = l.start
