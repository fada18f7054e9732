use Rattle.std.proofs.Common.{◌≡◌, ◌+◌, ◌-◌, ◌≤◌, length, drop}
use Rattle.std.specs.List.{prefix_len}
use Rattle.rustc_lexer_errors.specs.TextError.{is_of}
use Rattle.rustc_lexer_errors.proofs.frontmatter.run_of.Given as goal

abbrev pub invariant-run : goal.invariant-run
invariant-run l = record {
  inside : l.count ≤ length l.bytes;
  same : prefix_len (is_of l.these) l.bytes ≡ l.count + prefix_len (is_of l.these) (drop l.count l.bytes);
}

abbrev pub decreases-run : goal.decreases-run
decreases-run l = length l.bytes - l.count
