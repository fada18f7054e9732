use Rattle.std.proofs.{Common.{sym, ◌∙◌, arith, subst, rules}, lemmas.Grind.{common_steps}}
use Rattle.rustc_lexer.specs.Classes.{IsText}
use Rattle.rustc_lexer.proofs.lemmas.edits.Bounds.{tokens_le_bytes}
use Rattle.examples.proofs.RepaintLemmas.{enough_for}
use Rattle.examples.proofs.repaint.edit_shown.Goals as goal

pub prove-unreachable-requires : goal.prove-unreachable-requires
prove-unreachable-requires g c = grind (arith, common_steps, rules, tokens_le_bytes)

pub returns-clause-enough : goal.returns-clause-enough
returns-clause-enough g c =
    let text = c.args.lexed.now.text in
    let is : IsText text = subst IsText c.text.ensures.text record { utf8 = c.text.utf8; fits = c.text.ensures.fits } in
    enough_for (g.S.Stepper.law c.args.lexed.now.stepper) text is _ _ _ c.utf8.insert c.requires.accepted _ _ _ _
    (sym c.tokens.ensures.tokens ∙ c.tokens.ensures.from_scratch) c.edit.ensures.edited.from_scratch
    c.edit.ensures.edited.text c.edit.ensures.edited.relexed
