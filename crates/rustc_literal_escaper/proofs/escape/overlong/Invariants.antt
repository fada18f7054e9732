use Rattle.std.proofs.Common.{◌≡◌, length}
use Rattle.rustc_literal_escaper.specs.model.Escape.{overlong}
use Rattle.rustc_literal_escaper.proofs.escape.overlong.Given as goal

abbrev pub invariant-digits : goal.invariant-digits
invariant-digits g l = (g.T.Text.offset_of l.rest ≡ g.T.Text.offset_of l.fn.rest)
    × (overlong (g.T.Text.left l.rest) ≡ overlong (g.T.Text.left l.fn.rest))

abbrev pub decreases-digits : goal.decreases-digits
decreases-digits g l = length (g.T.Text.left l.rest)
