use Rattle.std.proofs.Common.{◌≡◌, List, false, length}
use Rattle.rustc_literal_escaper.specs.{Grammar.{Item}, model.{Elements.{front_by, items_by}, Sinks.{Runs}}}
use Rattle.rustc_literal_escaper.proofs.elements.each_escaped.Given as goal

-- Consuming the remaining items completes the run from the start.
abbrev pub invariant-elements : goal.invariant-elements
invariant-elements g l =
    g.S.Sink.ready l.sink
    × (g.T.Text.offset_of l.rest ≡ g.T.Text.offset_of l.fn.rest)
    × ((last : _) (left : List Item)
    → Runs g.S.Sink.took l.sink (items_by (front_by false) (g.T.Text.offset_of l.fn.rest) (g.T.Text.left l.rest))
    last left → Runs g.S.Sink.took l.fn.sink
    (items_by (front_by false) (g.T.Text.offset_of l.fn.rest) (g.T.Text.left l.fn.rest)) last left)

abbrev pub decreases-elements : goal.decreases-elements
decreases-elements g l = length (g.T.Text.left l.rest)
