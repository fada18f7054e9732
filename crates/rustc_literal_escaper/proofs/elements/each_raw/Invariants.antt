use Rattle.std.proofs.Common.{◌≡◌, List, true, length}
use Rattle.rustc_literal_escaper.specs.{Grammar.{Item}, model.{Elements.{front_by, items_by}, Sinks.{Runs}}}
use Rattle.rustc_literal_escaper.proofs.elements.each_raw.Given as goal

-- Consuming the remaining items completes the run from the start.
abbrev pub invariant-characters : goal.invariant-characters
invariant-characters g l =
    g.S.Sink.ready l.sink
    × (g.T.Text.offset_of l.rest ≡ g.T.Text.offset_of l.fn.rest)
    × ((last : _) (left : List Item)
    → Runs g.S.Sink.took l.sink (items_by (front_by true) (g.T.Text.offset_of l.fn.rest) (g.T.Text.left l.rest))
    last left → Runs g.S.Sink.took l.fn.sink
    (items_by (front_by true) (g.T.Text.offset_of l.fn.rest) (g.T.Text.left l.fn.rest)) last left)

abbrev pub decreases-characters : goal.decreases-characters
decreases-characters g l = length (g.T.Text.left l.rest)
