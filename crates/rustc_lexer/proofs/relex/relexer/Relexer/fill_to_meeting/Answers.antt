use Rattle.std.proofs.Common.{◌≡◌, ◌<◌, ℕ, false, subst}
use Rattle.rustc_lexer.specs.{Relexer.{RelexerModel, is_done}, model.Relexer.{IsClear}}
use Rattle.rustc_lexer.proofs.lemmas.edits.ManyTokens.{IsNextFilled, next_filled}
use Rattle.rustc_lexer.proofs.relex.relexer.Relexer.fill_to_meeting.{Given.{Over}, Goals.{After-fill-count}}
use Rattle.rustc_lexer.proofs.relex.relexer.Relexer.fill_to_meeting.Goals as goal

module _ (g : Over) (c : After-fill-count g) where
  abbrev Filled : RelexerModel → Type 0
  Filled r = IsNextFilled g.R.FromToken.written (g.S.Stepper.grammar c.args.stepper.now).first r c.args.buffer.now
      c.fill-count.new.buffer c.fill-count.result.0 c.fill-count.result.1 c.earliest_meeting-end.result

  filled : Filled c.args.self.now
  filled =
      let end : ℕ = c.earliest_meeting-end.result in
      let f = c.fill-count.ensures in
      let past = c.earliest_meeting-end.ensures in
      subst (λ (r : RelexerModel). is_done r.text r.at ≡ false → r.at.at < end → IsClear r end → Filled r) c.self.view_is
      (λ going past clear. next_filled (g.S.Stepper.law c.args.stepper.now) c.self.invariant.0
      c.self.invariant.2.boundary c.range_from.ensures.value f.filled f.bytes going past clear c.requires.room)
      c.requires.going past.past past.none

pub advance-requires-clause-boundary : goal.advance-requires-clause-boundary
advance-requires-clause-boundary g c =
    (filled g (goal.at.advance-requires-clause-boundary g c).After-fill-count).boundary

pub advance-requires-clause-few : goal.advance-requires-clause-few
advance-requires-clause-few g c = (filled g (goal.at.advance-requires-clause-few g c).After-fill-count).few

pub returns-clause-fills : goal.returns-clause-fills
returns-clause-fills g c =
    let f = filled g (goal.at.returns-clause-fills g c).After-fill-count in record {
      advances = c.advance.ensures (g.S.Stepper.grammar c.args.stepper.now).first _
          (g.S.Stepper.law c.args.stepper.now) f.next;
      within = f.within;
      tokens = f.tokens;
    }
