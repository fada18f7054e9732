use Rattle.std.proofs.Common.{◌∷◌, ◌-◌, length}
use Rattle.rustc_lexer.proofs.lemmas.tokens.Search.{IsPast}
use Rattle.rustc_lexer.proofs.frontmatter.find_pattern.Given as goal

abbrev pub invariant-places : goal.invariant-places
invariant-places l = IsPast (l.first ∷ l.more) l.rest l.from

abbrev pub decreases-places : goal.decreases-places
decreases-places l = length l.rest - l.from
