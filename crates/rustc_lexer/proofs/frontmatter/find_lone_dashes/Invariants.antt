use Rattle.std.proofs.Common.{◌-◌, length}
use Rattle.rustc_lexer.specs.laws.Fences.{IsWalking}
use Rattle.rustc_lexer.proofs.frontmatter.find_lone_dashes.Given as goal

abbrev pub invariant-places : goal.invariant-places
invariant-places l = IsWalking l.rest l.end

abbrev pub decreases-places : goal.decreases-places
decreases-places l = length l.rest - l.end
