use Rattle.std.proofs.Common.{ℕ, List, sym}
use Rattle.rustc_lexer.specs.{Classes.{IsText}, Relexer.{IsChange}}
use Rattle.rustc_lexer_c.proofs.HeadLemmas.{Changes, found, refused_body, refused_edit}
use Rattle.rustc_lexer_c.specs.Relex.{change_of}
use Rattle.rustc_lexer_c.proofs.head.rustc_lexer_body_edit_unchecked.Goals as goal

pub returns-then-not-is_valid_for : goal.returns-then-not-is_valid_for
returns-then-not-is_valid_for c =
    let text : List ℕ = c.in-Ok.text.now in
    let is : IsText text = rw c.in-Ok.ensures.0 c.in-Ok.ensures.1 in
    let not : ¬ (IsChange text (change_of c.args.edit.now)) =
    λ fine. let valid = c.is_valid_for.ensures.1 (rw c.change_of-change.ensures fine) in cc in
    rw (← c.in-Ok.ensures.0, c.number-then-not-is_valid_for.ensures)
    (refused_edit _ is _ _ _ _ not)

pub returns-then-not-is_valid_for-2 : goal.returns-then-not-is_valid_for-2
returns-then-not-is_valid_for-2 c =
    let text : List ℕ = c.in-Ok.text.now in
    let is : IsText text = rw c.in-Ok.ensures.0 c.in-Ok.ensures.1 in
    let body = c.body_change-body.result in
    let all : Changes c.args.head.now c.args.edit.now c.find-now.result body.keeps_head body.change =
    rw (sym c.head_of.ensures.head, sym c.change_of-change.ensures) c.body_change-body.ensures.body in
    let not : ¬ (IsChange c.range_from.result.now body.change) =
    λ may. let valid = c.is_valid_for-2.ensures.1 may in cc in
    rw (← c.in-Ok.ensures.0, c.number-then-not-is_valid_for-2.ensures)
    (refused_body _ is _ _ _ _ _ _ _ c.find-now.ensures.head all (rw c.range_from.ensures.value at not))

pub returns : goal.returns
returns c =
    let text : List ℕ = c.in-Ok.text.now in
    let is : IsText text = rw c.in-Ok.ensures.0 c.in-Ok.ensures.1 in
    let body = c.body_change-body.result in
    let all : Changes c.args.head.now c.args.edit.now c.find-now.result body.keeps_head body.change =
    rw (sym c.head_of.ensures.head, sym c.change_of-change.ensures) c.body_change-body.ensures.body in
    let fine = rw c.change_of-change.ensures at (c.is_valid_for.ensures.0 c.if-not-is_valid_for.false) in
    let may = rw c.range_from.ensures.value at (c.is_valid_for-2.ensures.0 c.if-not-is_valid_for-2.false) in
    rw (← c.in-Ok.ensures.0, c.numbers_of_head.ensures, c.edit_of.ensures, c.from.ensures)
    (found _ is _ _ _ _ _ _ _ c.find-now.ensures.head all fine may)
