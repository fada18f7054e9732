use Rattle.std.proofs.Common.{ap, refl, sym, ◌∙◌, arith}
use Rattle.std.proofs.lemmas.Grind.{common_steps}
use Rattle.rustc_lexer.specs.Relexer.{RelexerModel}
use Rattle.rustc_lexer_c.proofs.RelexLemmas.{if_each, if_some}
use Rattle.rustc_lexer_c.proofs.relex.relex_at.Goals as goal

pub returns-then-relexing-eq-STAGE_BEGIN-clause-none : goal.returns-then-relexing-eq-STAGE_BEGIN-clause-none
returns-then-relexing-eq-STAGE_BEGIN-clause-none c =
    let zero_stage = c.if-relexing-eq-STAGE_BEGIN.true in (
      λ none may. c.begin.ensures.none.0 none (c.requires.fits, may.0),
      λ not. c.begin.ensures.none.1 (λ may. not (may.1, λ later. absurd (later zero_stage))),
    )

pub returns-then-relexing-eq-STAGE_BEGIN-clause-some : goal.returns-then-relexing-eq-STAGE_BEGIN-clause-some
returns-then-relexing-eq-STAGE_BEGIN-clause-some c =
    let zero_stage = c.if-relexing-eq-STAGE_BEGIN.true in
    let begun = c.begin.ensures in
    if_each c.begin.result begun.edited begun.lexed begun.under_way (λ r edited lexed under_way. (
      edited.0,
      edited.1,
      edited.2,
      rw zero_stage lexed,
      λ later. absurd (later zero_stage),
      λ first before insert law is passed. under_way first before insert law is
          (rw c.front_of.ensures (passed.near zero_stage)),
    ))

pub returns-clause-none : goal.returns-clause-none
returns-clause-none c =
    let later = c.if-relexing-eq-STAGE_BEGIN.false in
    let state = c.in-Some.ensures.some in (
      λ none may. c.resume.ensures.none.0 none (c.requires.fits, may.0, rw state.1 (may.1 later).1),
      λ not. c.resume.ensures.none.1 (λ may. not (may.1, λ _. (state.0, rw (sym state.1) may.2))),
    )

pub returns-clause-some : goal.returns-clause-some
returns-clause-some c =
    let later = c.if-relexing-eq-STAGE_BEGIN.false in
    let state = c.in-Some.ensures.some.1 in
    if_some c.resume.result c.resume.ensures.some (λ r is.
    let at = ap (λ (m : RelexerModel). m.at) is ∙ state in (
      rw is refl,
      rw is refl,
      rw is refl,
      rw at (grind (arith, common_steps, later)),
      λ _. rw at refl,
      λ first before insert law made passed. rw at (passed.under_way later),
    ))
