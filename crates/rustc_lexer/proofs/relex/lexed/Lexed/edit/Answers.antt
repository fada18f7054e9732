use Rattle.std.proofs.Common.{◌≡◌, List, ℕ, slice_range, string_bytes, refl, ◌∙◌, arith, rules}
use Rattle.std.proofs.lemmas.Grind.{common_steps}
use Rattle.rustc_lexer.specs.{declared.relex.change.Change.{Change}, Relexer.{IsEditOf}, Edits.{apply}}
use Rattle.rustc_lexer.proofs.lemmas.edits.FrontAndBack.{edited, put_back}
use Rattle.rustc_lexer.proofs.lemmas.edits.DocumentEdits.{counted_refused, few_none, put_by, refused}
use Rattle.rustc_lexer.proofs.lemmas.edits.ByLengths.{made_change}
use Rattle.rustc_lexer.proofs.relex.lexed.Lexed.edit.Goals as goal

-- Replacing the inserted text with the removed text restores the old text.
put_back_from : {text insert read removed put now : List ℕ} {edit : Change} → IsEditOf text edit insert put
    → removed ≡ slice_range read edit.start edit.old_end → read ≡ text
    → now ≡ apply put edit.start edit.new_end removed → now ≡ text
put_back_from e removed_is read_is again = again ∙ rw (removed_is, read_is) (put_back e)

pub update-requires-clause-fits : goal.update-requires-clause-fits
update-requires-clause-fits g c =
    let p = put_by c.self.invariant c.utf8.insert
    (rw (← c.self.view_is) at c.requires.accepted) c.apply_in_place.ensures.text c.reserve.ensures.bytes in
    (edited p.edit_of).text_is.fits

pub update-requires-clause-put : goal.update-requires-clause-put
update-requires-clause-put g c = grind (arith, common_steps, put_by)

pub invariant_of-self-in-Ok : goal.invariant_of-self-in-Ok
invariant_of-self-in-Ok g c = search (rules, put_by)

pub returns-in-Ok-clause-edited : goal.returns-in-Ok-clause-edited
returns-in-Ok-clause-edited g c = search (rules, put_by)

pub returns-in-Ok-clause-count : goal.returns-in-Ok-clause-count
returns-in-Ok-clause-count g c = search (rules, put_by)

pub apply_in_place-requires-in-Err-clause-inside : goal.apply_in_place-requires-in-Err-clause-inside
apply_in_place-requires-in-Err-clause-inside g c =
    let p = put_by c.self.invariant c.utf8.insert
    (rw (← c.self.view_is) at c.requires.accepted) c.apply_in_place.ensures.text c.reserve.ensures.bytes in
    rw c.update.ensures.text (made_change p.edit_of).inserted

pub invariant_of-self-in-Err : goal.invariant_of-self-in-Err
invariant_of-self-in-Err g c =
    let p = put_by c.self.invariant c.utf8.insert
    (rw (← c.self.view_is) at c.requires.accepted) c.apply_in_place.ensures.text c.reserve.ensures.bytes in
    let same : string_bytes c.apply_in_place-in-Err.new.text ≡ string_bytes c.self.inside.parts.text =
    put_back_from p.edit_of (c.as_str.ensures.value ∙ (c.in_ok-removed.ensures.ok ∙ c.range.ensures.value))
    c.deref.ensures
    (rw c.update.ensures.text at c.apply_in_place-in-Err.ensures.text) in
    rw same (c.in-Err.ensures.renewed _ _ p).0

pub returns-clause-edited : goal.returns-clause-edited
returns-clause-edited g c =
    let p = put_by c.self.invariant c.utf8.insert (rw (← c.self.view_is) at c.requires.accepted)
    c.apply_in_place.ensures.text c.reserve.ensures.bytes in
    let same : string_bytes c.apply_in_place-in-Err.new.text ≡ string_bytes c.self.inside.parts.text =
    put_back_from p.edit_of (c.as_str.ensures.value ∙ (c.in_ok-removed.ensures.ok ∙ c.range.ensures.value))
    c.deref.ensures
    (rw c.update.ensures.text at c.apply_in_place-in-Err.ensures.text) in
    rw (← c.self.view_is, same) (c.in-Err.ensures.renewed _ _ p).1

pub returns-clause-count : goal.returns-clause-count
returns-clause-count g c =
    let p = put_by c.self.invariant c.utf8.insert (rw (← c.self.view_is) at c.requires.accepted)
    c.apply_in_place.ensures.text c.reserve.ensures.bytes in
    rw (← c.self.view_is) (c.in-Err.ensures.renewed _ _ p).2

pub returns-in_err-removed-clause-edited : goal.returns-in_err-removed-clause-edited
returns-in_err-removed-clause-edited g c = search (rules, refused)

pub returns-in_err-removed-clause-count : goal.returns-in_err-removed-clause-count
returns-in_err-removed-clause-count g c = search (rules, counted_refused, few_none)

pub returns-in_err-reserve-clause-edited : goal.returns-in_err-reserve-clause-edited
returns-in_err-reserve-clause-edited g c =
    rw (← c.self.view_is)
    (refused c.from_residual-in_err-reserve.result c.from_residual-in_err-reserve.ensures.0 c.self.invariant.1
    c.reserve.ensures.bytes refl)

pub returns-in_err-reserve-clause-count : goal.returns-in_err-reserve-clause-count
returns-in_err-reserve-clause-count g c =
    rw (← c.self.view_is)
    (counted_refused c.from_residual-in_err-reserve.result c.from_residual-in_err-reserve.ensures.0 (omega arith)
    (few_none (g.S.Stepper.law c.self.inside.parts.stepper) g.E.Extent.whole _ _ _ _ _ c.self.invariant.0
    c.utf8.insert (rw (← c.self.view_is) at c.requires.accepted)))
