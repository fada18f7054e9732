use Rattle.std.proofs.Common.{◌≡◌, ◌+◌, List, ℕ, ap, drop, false, subst, sym, ◌∙◌}
use Rattle.rustc_lexer.specs.{Token, Locality.{IsGrammar}, Relexer.{Advances, RelexerModel, is_done}, model.Relexer.{IsNext}}
use Rattle.rustc_lexer.proofs.lemmas.edits.{ManyTokens.{next_one}, UnderWay.{gives_next}}
use Rattle.rustc_lexer.proofs.relex.relexer.Relexer.next.Goals as goal

pub returns-clause-step : goal.returns-clause-step
returns-clause-step g c =
    let law = g.S.Stepper.law c.args.stepper.now in
    let first : List ℕ → Token = (g.S.Stepper.grammar c.args.stepper.now).first in
    let token : Token = c.step-token.result in
    let token_is = c.step-token.ensures.token ∙ ap first c.range_from.ensures.value in
    let r = c.self.inside in
    subst (λ (r : RelexerModel). ((first : List ℕ → Token) (end : ℕ) → IsGrammar first
    → IsNext first r 1 token.len end → Advances first r 1 c.advance.new.self) → is_done r.text r.at ≡ false
    → (token ≡ first (drop r.at.at r.text)) × Advances first r 1 c.advance.new.self
    × (g.S.Stepper.count c.step-token.new.self ≡ g.S.Stepper.count c.args.stepper.now + 1)
    × (is_done r.text r.at ≡ false)) c.self.view_is (λ advances going. (
      token_is,
      advances first _ law (next_one law _ c.self.invariant.0 c.self.invariant.2.boundary going token_is),
      c.step-token.ensures.count,
      going,
    )) c.advance.ensures (sym c.is_done.ensures.over ∙ c.if-is_done.false)

pub returns-clause-under_way : goal.returns-clause-under_way
returns-clause-under_way g c = λ before insert is.
    let law = g.S.Stepper.law c.args.stepper.now in
    let step = returns-clause-step g c in
    gives_next law is.made_of is.under_way
    (sym (c.is_done.ensures.met _ before insert law is) ∙ c.if-is_done.false) step.0 step.1.steps
