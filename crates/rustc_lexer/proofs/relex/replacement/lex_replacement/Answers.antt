use Rattle.std.proofs.Common.{◌≡◌, ◌∷◌, ◌++◌, List, ℕ, length, drop, take, refl, sym, ap, ◌∙◌, subst, arith}
use Rattle.std.proofs.Common.{length-append, length-take-le, []}
use Rattle.rustc_lexer.specs.{Token, Relexer.{Fills, RelexerModel, known}, Tokens.{tokens_by}}
use Rattle.rustc_lexer.specs.model.Checkpoints.{end_of}
use Rattle.rustc_lexer.proofs.lemmas.edits.FrontAndBack.{IfErr-always}
use Rattle.rustc_lexer.proofs.lemmas.edits.ManyTokens.{begun_as, end_bound, few_relexed, front_of, more_lexed}
use Rattle.rustc_lexer.proofs.lemmas.tokens.Progress.{same_first}
use Rattle.rustc_lexer.proofs.relex.replacement.lex_replacement.{Given.{Over}, Goals.{After-fill-count}}
use Rattle.rustc_lexer.proofs.relex.replacement.lex_replacement.Goals as goal

pub returns-in_default-clause-lexed : goal.returns-in_default-clause-lexed
returns-in_default-clause-lexed g c = λ before insert is near.
    let law = g.S.Stepper.law c.args.stepper.now in
    let begin : RelexerModel = c.begin_valid-relex.result in
    let b = c.begin_valid-relex.ensures in
    let new : List Token = tokens_by (g.S.Stepper.grammar c.args.stepper.now).first c.args.text.now in
    let none = c.new-tokens.ensures.items in
    let under_way = b.under_way _ before insert law is near in
    let same = c.in_default.ensures.step.0 in
    rw (c.state.ensures.state, same) (record {
      under_way = under_way;
      met = rw same at (c.in_default.ensures.under_way before insert (begun_as b.edited is under_way));
      lexed = b.lexed ∙ sym (ap (λ (ts : List Token). length ts) none);
      tokens_are = none ∙ ap (λ n. take n (drop begin.at.front.index new)) (sym b.lexed);
    })

pub returns-in_err-push-clause-few : goal.returns-in_err-push-clause-few
returns-in_err-push-clause-few g c =
    let law = g.S.Stepper.law c.args.stepper.now in
    let b = c.begin_valid-relex.ensures in
    let step = c.in-Some.ensures.step in
    IfErr-always c.from_residual.result (λ before insert is near r counts.
    let begun = begun_as b.edited is (b.under_way _ before insert law is near) in
    let few = few_relexed law (step.1.goes_on before insert begun).0 (step.1.same_change ∙ b.edited.2) counts in
    omega (arith, step.2, step.1.steps.lexed, few))

pub left-init : goal.left-init
left-init g c =
    let law = g.S.Stepper.law c.args.stepper.now in
    let new : List Token = tokens_by (g.S.Stepper.grammar c.args.stepper.now).first c.args.text.now in
    let begin : RelexerModel = c.begin_valid-relex.result in
    let b = c.begin_valid-relex.ensures in
    let step = c.in-Some.ensures.step in
    let steps = step.1.steps in
    let token = c.in-Some.token in
    let items : c.push.new.self.items ≡ token ∷ [] =
    c.in_ok-push.ensures.items ∙ ap (λ (ts : List Token). ts ++ token ∷ []) c.new-tokens.ensures.items in
    let count = ap (λ (ts : List Token). length ts) items in
    record {
      same_text = step.1.same_text ∙ b.edited.0;
      same_lengths = step.1.same_lengths ∙ b.edited.1;
      same_change = step.1.same_change ∙ b.edited.2;
      grammar = c.in-Some.ensures.grammar;
      count = omega (arith, step.2, count);
      lexed = omega (arith, steps.lexed, count, b.lexed);
      under_way = λ before insert is near.
          let begun = begun_as b.edited is (b.under_way _ before insert law is near) in
          let first = rw b.edited.0 at (c.in-Some.ensures.under_way before insert begun) in
          let none = ap (λ n. take n (drop begin.at.front.index new)) (sym b.lexed) in (
            (step.1.goes_on before insert begun).0,
            items ∙ more_lexed new _ [] (token ∷ []) begin.at c.next.new.self.at 1 steps.front steps.lexed none
                (sym first) refl,
            λ are. are,
          );
    }

module _ (g : Over) (c : After-fill-count g) where
  abbrev first : List ℕ → Token
  first = (g.S.Stepper.grammar c.args.stepper.now).first

  -- The tokens that were filled in are the next tokens by the first grammar of the stepper.
  filled : Fills (λ (t : Token). t) first c.left.relex c.left.buffer c.fill-count.result c.fill-count.new.self
      c.fill-count.new.buffer
  filled = subst (λ (f : List ℕ → Token). Fills (λ (t : Token). t) f c.left.relex c.left.buffer c.fill-count.result
      c.fill-count.new.self c.fill-count.new.buffer) (same_first c.left.invariant.grammar) c.fill-count.ensures.fills

pub left-preserved : goal.left-preserved
left-preserved g c =
    let at = (goal.at.left-preserved g c).After-fill-count in
    let new : List Token = tokens_by (first g at) c.args.text.now in
    let inv = c.left.invariant in
    let f = filled g at in
    let a = f.advances in
    let old : RelexerModel = c.left.relex in
    let past : RelexerModel = c.fill-count.new.self in
    let count : ℕ = c.fill-count.result in
    let left : List Token = tokens_by (first g at) (drop old.at.at old.text) in
    let written = front_of left c.left.buffer c.fill-count.new.buffer count a.steps.inside f.tokens in
    let block : List Token = take count c.fill-count.new.buffer in
    let long : length block ≡ count = length-take-le count c.fill-count.new.buffer written.within in
    let items = c.in_ok-extend_from_slice.ensures.items in
    let size = ap (λ (ts : List Token). length ts) items in
    let more = length-append c.left.tokens.items block in
    let text_is = a.same_text ∙ inv.same_text in
    record {
      same_text = text_is;
      same_lengths = a.same_lengths ∙ inv.same_lengths;
      same_change = a.same_change ∙ inv.same_change;
      grammar = c.fill-count.ensures.grammar ∙ inv.grammar;
      count = omega (arith, c.fill-count.ensures.count, inv.count, size, long, more);
      lexed = omega (arith, a.steps.lexed, inv.lexed, size, long, more);
      under_way = λ before insert is near.
          let so = inv.under_way before insert is near in
          let goes = a.goes_on before insert so.0 in
          let here = goes.1 ∙ ap (λ (t : List ℕ). drop (known old.at) (tokens_by (first g at) t)) inv.same_text in
          let end = end_bound goes.0 text_is (c.end_of.ensures ∙ ap end_of c.state-in-left.ensures.state) in (
            goes.0,
            items ∙ more_lexed new left c.left.tokens.items block old.at past.at count a.steps.front a.steps.lexed so.1
                here written.front,
            λ are. c.remember.ensures new (so.2 are) end,
          );
    }

pub returns-in_err-extend_from_slice-clause-few : goal.returns-in_err-extend_from_slice-clause-few
returns-in_err-extend_from_slice-clause-few g c =
    let inv = c.left.invariant in
    let a = (filled g (goal.at.returns-in_err-extend_from_slice-clause-few g c).After-fill-count).advances in
    IfErr-always c.from_residual-in_err-extend_from_slice.result (λ before insert is near r counts.
    let goes = a.goes_on before insert (inv.under_way before insert is near).0 in
    let few = few_relexed (g.S.Stepper.law c.args.stepper.now) goes.0 (a.same_change ∙ inv.same_change) counts in
    omega (arith, c.fill-count.ensures.count, a.steps.lexed, inv.count, inv.lexed, few))
