use Rattle.std.proofs.Common.{◌≡◌, ◌+◌, true, length}
use Rattle.std.specs.List.{FoldsTo, list_all}
use Rattle.rustc_literal_escaper.specs.model.Plain.{is_ascii_value, plain_items}
use Rattle.rustc_literal_escaper.proofs.strings.each_ascii.Given as goal

-- The calls for the rest of the run complete those for all of it.
abbrev pub invariant-run : goal.invariant-run
invariant-run g l =
    goal.F-IsAlwaysCallable g l.callback
    × (list_all is_ascii_value l.left ≡ true)
    × (l.start + length l.left ≡ length l.fn.run)
    × ((last : _) → FoldsTo (λ f item h. goal.F-step g f item.0 (g.M.Meaning.meaning item.1) tt h) l.callback (plain_items (length l.fn.run) l.left) last → FoldsTo (λ f item h. goal.F-step g f item.0 (g.M.Meaning.meaning item.1) tt h) l.fn.callback (plain_items (length l.fn.run) l.fn.run) last)

abbrev pub decreases-run : goal.decreases-run
decreases-run g l = length l.left
