use Rattle.std.proofs.Common.{◌≡◌, ◌<◌, ◌^◌, ◌≤◌, length}
use Rattle.rustc_literal_escaper.proofs.DigitLemmas.{left_at}
use Rattle.rustc_literal_escaper.proofs.escape.digits.Given as goal

abbrev pub invariant-digits : goal.invariant-digits
invariant-digits g l = (g.T.Text.offset_of l.rest ≡ g.T.Text.offset_of l.fn.rest)
    × (left_at l.value l.count (g.T.Text.left l.rest) ≡ left_at l.fn.first 1 (g.T.Text.left l.fn.rest))
    × (l.value < 16 ^ l.count) × (l.count ≤ 6)

abbrev pub decreases-digits : goal.decreases-digits
decreases-digits g l = length (g.T.Text.left l.rest)
