use Rattle.std.proofs.{lemmas.Grind.{common_steps}, Common.{rules}}
use Rattle.std.proofs.Common.{◌≡◌, ◌-◌, ◌<◌, ◌≤◌, List, ℕ, drop, length, refl, ap, ◌∙◌, arith, length-drop}
use Rattle.rustc_lexer.specs.{Edition, Token, Classes.{IsText}, Tokens.{bound, tokens_by}}
use Rattle.rustc_lexer.specs.{laws.Edition.{edition_grammar}, model.Edition.{first_token_in}, State.{State}}
use Rattle.rustc_lexer.proofs.lemmas.tokens.Buffers.{filled_more, IsFilling, some_left, stands, written_to}
use Rattle.rustc_lexer.proofs.entry.stepper.StepsStepper.fill.Goals as goal
use Rattle.rustc_lexer.proofs.entry.stepper.StepsStepper.fill.Goals.{then-places-test+else-left-past_end}
use Rattle.rustc_lexer.proofs.entry.stepper.StepsStepper.fill.Goals.{else-places-test}
use Rattle.rustc_lexer.proofs.entry.stepper.StepsStepper.fill.Goals.{then-places-test+then-left-past_end+in_default+in_default-next}

pub places-preserved-in-Some : goal.places-preserved-in-Some
places-preserved-in-Some g c =
    filled_more g.R.FromToken.written _ c.args.text.now c.args.end c.args.buffer.now c.places.buffer c.places.count _ _
    c.in-Some.token _ record { utf8 = c.utf8.text; fits = c.requires.fits } c.requires.inside c.places.invariant
    (omega arith) (omega arith) c.in-Some.ensures c.from_token.ensures

pub places-preserved : goal.places-preserved
places-preserved g c =
    let same : State = c.next_classified.new.self in
    let here : IsFilling g.R.FromToken.written c.args.self.now.edition c.args.text.now c.args.end c.args.buffer.now
    c.places.buffer c.places.count same = rw c.in_default.ensures c.places.invariant in
    filled_more g.R.FromToken.written _ c.args.text.now c.args.end c.args.buffer.now c.places.buffer c.places.count same
    _ c.in-Some-next.token _ record { utf8 = c.utf8.text; fits = c.requires.fits } c.requires.inside here
    (omega (arith, ap (λ (s : State). length s.rest) c.in_default.ensures))
    (omega arith) c.in-Some-next.ensures.steps c.from_token-in-places.ensures

pub returns-clause-filled : goal.returns-clause-filled
returns-clause-filled g c =
    let edition : Edition = c.args.self.now.edition in
    let first : List ℕ → Token = first_token_in edition in
    let text : List ℕ = c.args.text.now in
    let is : IsText text = record { utf8 = c.utf8.text; fits = c.requires.fits } in
    let inv = c.places.invariant in
    let count : ℕ = c.places.count in
    let at : ℕ = bound (tokens_by first text) count in
    let offset = stands (edition_grammar edition) text is count at refl in
    let left : length c.places.tokens.rest ≡ length text - at = ap length inv.rest ∙ length-drop at text in
    let done : count < length c.places.buffer → c.args.end ≤ at = elim c.places-test.branch [
      | then-places-test+else-left-past_end w ↦
          λ more. omega (arith, left, offset.inside, w.left.ensures, w.if-left-past_end.false)
      | else-places-test w ↦ λ more. absurd (omega arith)
      | then-places-test+then-left-past_end+in_default+in_default-next w ↦
          let some = some_left edition (drop at text) offset.past w.next_classified.new.self
          (rw w.in_default.ensures inv.mode) (rw w.in_default.ensures inv.rest)
          (omega (arith, left, length-drop at text, w.left.ensures, w.if-left-past_end.true)) in
          λ more. absurd (omega (arith, some, ap length w.in_default-next.ensures.steps.0))
    ] in
    written_to g.R.FromToken.written c.args.end (tokens_by first text) c.args.buffer.now c.places.buffer count
    inv.written inv.begun done

pub returns-clause-bytes : goal.returns-clause-bytes
returns-clause-bytes g c = grind (arith, common_steps, rules, stands, edition_grammar, else-places-test, length-drop)
