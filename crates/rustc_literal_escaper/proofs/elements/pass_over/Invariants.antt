use Rattle.std.proofs.Common.{◌≡◌, length}
use Rattle.rustc_literal_escaper.proofs.PlaceLemmas.{Passing}
use Rattle.rustc_literal_escaper.proofs.elements.pass_over.Given as goal

abbrev pub invariant-space : goal.invariant-space
invariant-space g l = (g.T.Text.offset_of l.rest ≡ g.T.Text.offset_of l.fn.rest)
    × Passing l.newline (g.T.Text.left l.fn.rest) (g.T.Text.left l.rest)

abbrev pub decreases-space : goal.decreases-space
decreases-space g l = length (g.T.Text.left l.rest)
