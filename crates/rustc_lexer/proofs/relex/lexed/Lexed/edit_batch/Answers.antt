use Rattle.std.proofs.Common.{◌≡◌, ◌-◌, ℕ, List, [], Err, length, rules, string_bytes, arith, refl, sym, ap, ◌∙◌}
use Rattle.std.proofs.lemmas.Grind.{common_steps}
use Rattle.rustc_lexer.specs.declared.relex.edit_error.EditStop.TheVariants.{Memory}
use Rattle.rustc_lexer.specs.declared.relex.change.Change.{Change}
use Rattle.rustc_lexer.specs.{Edits.{start_of_first, stop_of_last, batch_insert}, LexedText.{layout_in}}
use Rattle.rustc_lexer.specs.model.Document.{IsPut, edit_change}
use Rattle.rustc_lexer.proofs.lemmas.edits.EditBatch.{at_once_none, none_by_one, one_by_one, put_at_once}
use Rattle.rustc_lexer.proofs.lemmas.edits.DocumentEdits.{counted_as, counted_refused, few_none, made_as, refused}
use Rattle.rustc_lexer.proofs.relex.lexed.Lexed.edit_batch.{Given.{Over}, Goals.{After-replace-before}}
use Rattle.rustc_lexer.proofs.relex.lexed.Lexed.edit_batch.Goals as goal

module _ (g : Over) (c : After-replace-before g) where
  abbrev old : List ℕ
  old = string_bytes c.self.inside.parts.text

  abbrev insert : List ℕ
  insert = batch_insert old (start_of_first c.args.edits.now) c.args.edits.now

  abbrev change : Change
  change = edit_change (start_of_first c.args.edits.now) (stop_of_last 0 c.args.edits.now) insert

  -- The new text is the result of the one edit that the list amounts to.
  put : (c.in_ok-edit.edit ≡ change)
      × IsPut (layout_in g.E.Extent.whole) (g.S.Stepper.grammar c.self.inside.parts.stepper).first old insert change
      (string_bytes c.replace-before.new.dest) c.self.inside.parts.tokens.items c.self.inside.parts.head
      c.self.inside.parts.checkpoints
  put =
      let some : c.args.edits.now ≡ [] → ⊥ = search rules in
      let seen : c.text-text.result.now ≡ old = c.text-text.ensures.text ∙ sym (ap (λ h. h.text) c.self.view_is) in (
        rw seen at c.in_ok-edit.ensures.change,
        put_at_once c.args.edits.now some c.self.invariant (rw seen at c.in_ok-edit.ensures.utf8)
            (rw seen at c.in_ok-edit.ensures.valid) refl
            (ap string_bytes c.replace-before.ensures.after ∙ (rw seen at c.in-Ok.ensures)),
      )

pub returns-then-is_empty-clause-accepted : goal.returns-then-is_empty-clause-accepted
returns-then-is_empty-clause-accepted g c =
    rw c.text-text.ensures.text at
    (at_once_none c.text-text.result.now c.args.edits.now (search rules)
    (record { utf8 = c.text-text.utf8; fits = c.text-text.ensures.fits }))

pub returns-in_default-clause-edit : goal.returns-in_default-clause-edit
returns-in_default-clause-edit g c some valid = grind (arith, common_steps, refused)

pub returns-in_default-clause-count : goal.returns-in_default-clause-count
returns-in_default-clause-count g c some valid = grind (arith, common_steps, few_none, counted_refused)

pub update-requires-clause-put : goal.update-requires-clause-put
update-requires-clause-put g c =
    let p = put g (goal.at.update-requires-clause-put g c).After-replace-before in (_, _, rw (← p.0) at p.1)

pub invariant_of-self : goal.invariant_of-self
invariant_of-self g c =
    let p = put g (goal.at.invariant_of-self g c).After-replace-before in
    ((rw p.0 at c.in-Ok-update.ensures.renewed) _ _ p.1).0

pub returns-in-Ok-update-clause-edit : goal.returns-in-Ok-update-clause-edit
returns-in-Ok-update-clause-edit g c some valid =
    let p = put g (goal.at.returns-in-Ok-update-clause-edit g c).After-replace-before in
    rw (← c.self.view_is) (made_as ((rw p.0 at c.in-Ok-update.ensures.renewed) _ _ p.1).1)

pub returns-in-Ok-update-clause-count : goal.returns-in-Ok-update-clause-count
returns-in-Ok-update-clause-count g c some valid =
    let p = put g (goal.at.returns-in-Ok-update-clause-count g c).After-replace-before in
    rw (← c.self.view_is) (counted_as ((rw p.0 at c.in-Ok-update.ensures.renewed) _ _ p.1).2)

pub invariant_of-self-in-Err : goal.invariant_of-self-in-Err
invariant_of-self-in-Err g c =
    let p = put g (goal.at.invariant_of-self-in-Err g c).After-replace-before in
    rw c.replace-before.ensures.value ((rw p.0 at c.in-Err.ensures.renewed) _ _ p.1).0

pub returns-in-Err-clause-edit : goal.returns-in-Err-clause-edit
returns-in-Err-clause-edit g c some valid =
    let p = put g (goal.at.returns-in-Err-clause-edit g c).After-replace-before in
    rw (← c.self.view_is) (refused (Err (Memory (length c.args.edits.now - 1))) refl c.self.invariant.1
    (ap string_bytes c.replace-before.ensures.value)
    ((rw p.0 at c.in-Err.ensures.renewed) _ _ p.1).1.same_tokens)

pub returns-in-Err-clause-count : goal.returns-in-Err-clause-count
returns-in-Err-clause-count g c some valid =
    let p = put g (goal.at.returns-in-Err-clause-count g c).After-replace-before in
    let is = ((rw p.0 at c.in-Err.ensures.renewed) _ _ p.1).2 in
    rw (← c.self.view_is)
    (counted_refused (Err (Memory (length c.args.edits.now - 1))) refl is.rose is.few)

pub returns-then-is_empty-clause-one_by_one : goal.returns-then-is_empty-clause-one_by_one
returns-then-is_empty-clause-one_by_one g c = none_by_one c.args.self.now.text c.args.edits.now (search rules)

pub returns-in-Ok-update-clause-one_by_one : goal.returns-in-Ok-update-clause-one_by_one
returns-in-Ok-update-clause-one_by_one g c =
    let some : c.args.edits.now ≡ [] → ⊥ = search rules in
    let valid = rw c.text-text.ensures.text at c.in_ok-edit.ensures.valid in
    (returns-in-Ok-update-clause-edit g c some valid).text ∙ one_by_one _ c.args.edits.now some valid.0
