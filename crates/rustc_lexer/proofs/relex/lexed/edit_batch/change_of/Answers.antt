use Rattle.std.proofs.{Common.{◌≤◌, ◌+◌, List, get_or, take, take_all, arith, refl, sym}, lemmas.Grind.{common_steps}}
use Rattle.std.proofs.lemmas.List.{take_more}
use Rattle.rustc_lexer.specs.declared.relex.edit.Edit.{Edit}
use Rattle.std.proofs.lemmas.Str.{IsCharBoundary-start, IsUtf8-nil}
use Rattle.rustc_lexer.proofs.lemmas.edits.EditBatch.{at_once_short, at_once_valid, first_start, insert_end, insert_utf8}
use Rattle.rustc_lexer.proofs.lemmas.edits.EditBatch.{made-last, order-last, order-take, some_are, stop-last}
use Rattle.rustc_lexer.proofs.lemmas.edits.EditSequence.{none}
use Rattle.rustc_lexer.specs.Edits.{AreInOrder}
use Rattle.rustc_lexer.proofs.relex.lexed.edit_batch.change_of.Goals as goal
use Rattle.rustc_lexer.proofs.relex.lexed.edit_batch.change_of.Goals.{then-edit-change-via-then-edit-change}
use Rattle.rustc_lexer.proofs.relex.lexed.edit_batch.change_of.Goals.{then-edit-change-via-else-edit-change+then-not-contains_range}

pub loop-at-init : goal.loop-at-init
loop-at-init c = grind (arith, common_steps, IsUtf8-nil, first_start, IsCharBoundary-start)

pub returns-then-edit-change-clause-stop : goal.returns-then-edit-change-clause-stop
returns-then-edit-change-clause-stop c =
    let is = c.loop-at.invariant in
    let next = λ (all : AreInOrder c.args.text.now 0 (take (c.loop-at.at + 1) c.args.edits.now)).
    (order-last c.args.text.now 0 (take c.loop-at.at c.args.edits.now) (get_or c.args.edits.now c.loop-at.at none)).0
    (rw (take_more c.args.edits.now c.loop-at.at none c.loop-at-test.true) at all) in
    let not : AreInOrder c.args.text.now 0 (take (c.loop-at.at + 1) c.args.edits.now) → ⊥ =
    λ all. elim c.then-edit-change.branch [
      | then-edit-change-via-then-edit-change w ↦ omega (arith, w.if-edit-change.true, (next all).1, is.3)
      | then-edit-change-via-else-edit-change+then-not-contains_range w ↦
          grind (arith, common_steps, w.contains_range.ensures, w.if-not-contains_range.true, (next all).2)
    ] in (
      (c.loop-at-test.true, is.0, not),
      λ are. not (order-take c.args.text.now 0 c.args.edits.now (c.loop-at.at + 1) are.0),
    )

pub loop-at-preserved : goal.loop-at-preserved
loop-at-preserved c =
    let is = c.loop-at.invariant in
    let inside = c.if-not-contains_range.ensures.0 refl in
    let edit : Edit = get_or c.args.edits.now c.loop-at.at none in
    let made : List Edit = take c.loop-at.at c.args.edits.now in
    let after : c.loop-at.change.old_end ≤ edit.start = omega (arith, c.if-edit-change.false) in
    let more = made-last c.args.text.now made edit _ _ _ c.utf8.text is.1 is.3 is.4 is.5 after inside
    c.saturating_len.ensures.utf8 c.saturating_len.ensures.sum in
    rw (take_more c.args.edits.now c.loop-at.at none c.loop-at-test.true) (
      (order-last c.args.text.now 0 made edit).1 (is.0, omega (arith, is.3, after), inside),
      more.0,
      is.2,
      sym (stop-last 0 made edit),
      inside.stop_boundary,
      more.1,
    )

pub overflow_sub-behind : goal.overflow_sub-behind
overflow_sub-behind c = c.loop-at.invariant.4.0

pub returns-then-change-behind-clause-stop : goal.returns-then-change-behind-clause-stop
returns-then-change-behind-clause-stop c = grind (arith, common_steps, take_all, at_once_short, some_are)

pub returns-clause-valid : goal.returns-clause-valid
returns-clause-valid c = grind (arith, common_steps, take_all, at_once_valid)

pub returns-clause-change : goal.returns-clause-change
returns-clause-change c = grind (arith, common_steps, take_all, insert_end)

pub returns-clause-utf8 : goal.returns-clause-utf8
returns-clause-utf8 c = grind (arith, common_steps, take_all, insert_utf8)
