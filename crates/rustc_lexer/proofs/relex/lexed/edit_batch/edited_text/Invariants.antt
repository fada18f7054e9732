use Rattle.std.proofs.Common.{◌≡◌, ◌++◌, drop, string_bytes}
use Rattle.std.specs.Str.{IsCharBoundary}
use Rattle.rustc_lexer.specs.Edits.{AreInOrder, stop_of_last, batch_insert}
use Rattle.rustc_lexer.proofs.relex.lexed.edit_batch.edited_text.Given as goal

abbrev pub invariant-loop-edit : goal.invariant-loop-edit
invariant-loop-edit l = AreInOrder l.text l.from (drop l.edit-index l.edits) × IsCharBoundary l.text l.from
    × (string_bytes l.made ++ batch_insert l.text l.from (drop l.edit-index l.edits) ≡ batch_insert l.text 0 l.edits)
    × (stop_of_last l.from (drop l.edit-index l.edits) ≡ stop_of_last 0 l.edits)
