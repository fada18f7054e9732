use Rattle.std.proofs.{Common.{sym, ◌∙◌, refl, arith, rules}, lemmas.Grind.{common_steps}}
use Rattle.rustc_lexer.specs.Classes.{IsText}
use Rattle.rustc_lexer.proofs.lemmas.tokens.Progress.{lexed_offset, same_first, stepped}
use Rattle.rustc_lexer.proofs.lemmas.edits.Settled.{sure_next, sure_stop, next_boundary}
use Rattle.rustc_lexer.proofs.relex.settle.settled_by.Goals as goal

pub range_from-requires : goal.range_from-requires
range_from-requires g c = grind (arith, common_steps, lexed_offset, c.requires.fits, c.loop-offset.invariant.0.to)

pub has_two_chars_between-requires-clause-from_boundary : goal.has_two_chars_between-requires-clause-from_boundary
has_two_chars_between-requires-clause-from_boundary g c = search (rules, stepped, next_boundary)

pub loop-offset-preserved : goal.loop-offset-preserved
loop-offset-preserved g c =
    let is : IsText c.args.text.now = record { utf8 = c.utf8.text; fits = c.requires.fits } in
    let token = stepped c.args.text.now c.loop-offset.offset c.step-token.ensures.token
    (same_first c.loop-offset.invariant.1) c.range_from.ensures.value in (
      sure_next (g.S.Stepper.law c.args.stepper.now) c.args.text.now is c.loop-offset.offset _ _
          c.loop-offset.invariant.0 c.loop-offset-test.true token refl
          (sym c.has_two_chars_between.ensures ∙ c.if-not-has_two_chars_between.false),
      c.step-token.ensures.grammar ∙ c.loop-offset.invariant.1,
    )

pub returns-after-loop-offset : goal.returns-after-loop-offset
returns-after-loop-offset g c = sure_stop (g.S.Stepper.law c.args.stepper.now) c.args.text.now
    (record { utf8 = c.utf8.text; fits = c.requires.fits }) c.loop-offset.offset c.loop-offset.invariant.0
    (λ more. absurd (omega (arith, more, c.loop-offset-test.false)))

pub returns-then-not-has_two_chars_between : goal.returns-then-not-has_two_chars_between
returns-then-not-has_two_chars_between g c =
    let token = stepped c.args.text.now c.loop-offset.offset c.step-token.ensures.token
    (same_first c.loop-offset.invariant.1) c.range_from.ensures.value in
    sure_stop (g.S.Stepper.law c.args.stepper.now) c.args.text.now
    (record { utf8 = c.utf8.text; fits = c.requires.fits }) c.loop-offset.offset c.loop-offset.invariant.0
    (λ more. rw (sym token) (sym c.has_two_chars_between.ensures ∙ c.if-not-has_two_chars_between.true))
