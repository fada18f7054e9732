use Rattle.std.proofs.{Common.{◌∙◌, rules, List, ℕ, refl, subst, get_or, arith}, lemmas.Grind.{common_steps}}
use Rattle.rustc_lexer.specs.{declared.relex.edit_error.EditStop.TheVariants.{Range, TooLong}, Edits.{IsRefusedOn}}
use Rattle.rustc_lexer.proofs.lemmas.edits.EditSequence.{counted_more, counted_refused, none, kept_more, kept_none}
use Rattle.rustc_lexer.proofs.lemmas.edits.EditSequence.{kept_refused, made_more, made_none, made_refused, made_stop}
use Rattle.rustc_lexer.proofs.relex.lexed.Lexed.make.Goals as goal

pub list-init : goal.list-init
list-init g c = grind (arith, common_steps, made_none, kept_none)

pub returns-then-contains_range-clause-made : goal.returns-then-contains_range-clause-made
returns-then-contains_range-clause-made g c =
    let m = c.list.invariant.made in
    made_stop m (TooLong c.list.made.count) refl c.list-test.true
    (subst (λ (text : List ℕ). IsRefusedOn (TooLong c.list.made.count) text
    (get_or c.args.edits.now c.list.made.count none)) c.text-text.ensures.text
    (c.if-contains_range.ensures.0 refl, λ is. absurd (search rules))) refl m.from_scratch

pub returns-else-contains_range-clause-made : goal.returns-else-contains_range-clause-made
returns-else-contains_range-clause-made g c =
    let m = c.list.invariant.made in
    made_stop m (Range c.list.made.count) refl c.list-test.true
    (subst (λ (text : List ℕ). IsRefusedOn (Range c.list.made.count) text
    (get_or c.args.edits.now c.list.made.count none)) c.text-text.ensures.text (λ inside. absurd (search rules)))
    refl m.from_scratch

pub returns-in-Err-clause-made : goal.returns-in-Err-clause-made
returns-in-Err-clause-made g c =
    made_refused c.list.invariant.made c.list-test.true
    (rw c.text-text.ensures.text at (c.if-not-accepts.ensures.0 refl))
    (rw c.list.invariant.grammar at c.in-Err.ensures.edited)

pub returns-in-Err-clause-count : goal.returns-in-Err-clause-count
returns-in-Err-clause-count g c =
    counted_refused c.list.invariant.made c.list-test.true
    (rw c.text-text.ensures.text at (c.if-not-accepts.ensures.0 refl)) _ _ _
    (rw c.list.invariant.grammar at c.in-Err.ensures.count) c.list.invariant.count

pub returns-in-Err-clause-kept : goal.returns-in-Err-clause-kept
returns-in-Err-clause-kept g c = grind (arith, common_steps, kept_refused)

pub list-preserved : goal.list-preserved
list-preserved g c =
    let is = rw c.text-text.ensures.text at (c.if-not-accepts.ensures.0 refl) in
    let edited = rw c.list.invariant.grammar at c.in-Ok.ensures.edited in
    let counted = rw c.list.invariant.grammar at c.in-Ok.ensures.count in
    record {
      made = made_more c.list.invariant.made c.list-test.true is c.more.result edited c.more.ensures.count
          c.more.ensures.front c.more.ensures.back;
      kept =
          kept_more c.list.invariant.made c.list-test.true is c.more.result c.list.invariant.kept edited
          c.more.ensures.count c.more.ensures.front c.more.ensures.back;
      grammar =
          c.in-Ok.ensures.grammar ∙ c.list.invariant.grammar;
      count =
          counted_more c.list.invariant.made c.list-test.true is _ _ _ c.more.result c.more.ensures.count edited.relexed
          counted c.list.invariant.count;
    }
