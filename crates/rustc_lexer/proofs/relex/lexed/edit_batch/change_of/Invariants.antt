use Rattle.std.proofs.Common.{◌≡◌, ◌-◌, ◌^◌, length, min, take}
use Rattle.std.specs.Str.{IsCharBoundary, IsUtf8}
use Rattle.rustc_lexer.specs.Edits.{AreInOrder, start_of_first, stop_of_last, batch_insert}
use Rattle.rustc_lexer.proofs.relex.lexed.edit_batch.change_of.Given as goal

abbrev pub invariant-loop-at : goal.invariant-loop-at
invariant-loop-at l = AreInOrder l.text 0 (take l.at l.edits) × IsUtf8 (batch_insert l.text 0 (take l.at l.edits))
    × (l.change.start ≡ start_of_first l.edits) × (l.change.old_end ≡ stop_of_last 0 (take l.at l.edits))
    × IsCharBoundary l.text l.change.old_end
    × (l.change.new_end ≡ min (2 ^ 64 - 1) (length (batch_insert l.text 0 (take l.at l.edits))))
