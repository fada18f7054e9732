use Rattle.std.proofs.Common.{◌≡◌, List, ℕ, ◌-◌, ◌∙◌, arith, drop, inl, inr, length, refl, subst, sym, take}
use Rattle.std.proofs.lemmas.Bool.{cases_lt}
use Rattle.rustc_lexer.specs.{Token, Relexer.{Fills}}
use Rattle.rustc_lexer.proofs.lemmas.edits.ManyTokens.{fills_more, fills_none}
use Rattle.rustc_lexer.proofs.lemmas.tokens.Progress.{same_first}
use Rattle.rustc_lexer.proofs.relex.relexer.Relexer.fill.Goals as goal

pub places-init : goal.places-init
places-init g c = record {
  grammar = refl;
  count = omega arith;
  fills = fills_none g.R.FromToken.written (g.S.Stepper.law c.args.stepper.now) c.args.self.now c.args.buffer.now;
  begins = λ some. absurd (omega (arith, some));
}

pub places-preserved : goal.places-preserved
places-preserved g c =
    let inv = c.places.invariant in
    let block = c.fill_to_meeting-count in
    let b = block.ensures in
    let rest = take (length c.places.buffer - c.places.count) (drop c.places.count c.places.buffer) in
    let fills = subst (λ (f : List ℕ → Token).
    Fills g.R.FromToken.written f c.places.self rest block.result block.new.self block.new.buffer)
    (same_first inv.grammar) b.fills in
    let begun = inv.fills.advances in
    record {
      grammar = b.grammar ∙ inv.grammar;
      count = omega (arith, b.count, inv.count);
      fills = fills_more inv.fills fills b.some;
      begins = λ _. elim (cases_lt 0 c.places.count) [
        | inl some ↦ inv.begins some
        | inr none ↦ (let e : c.places.count ≡ 0 = omega (arith, none) in
            rw (← begun.same_text, ← begun.steps.none e) (sym c.is_done.ensures.over ∙ c.if-not-is_done.true))
      ];
    }
