use Rattle.std.proofs.Common.{List, ◌≡◌, length, map, refl, sym, ◌∙◌, subst, arith}
use Rattle.rustc_lexer.specs.{Token, Classes.{IsText}, Locality.{IsSettled}, Tokens.{tokens_by}}
use Rattle.rustc_lexer.specs.model.Relexer.{IsFront}
use Rattle.rustc_lexer.proofs.lemmas.edits.{Settled.{settled_at, stays}, Bounds.{bound-last, cuts}}
use Rattle.rustc_lexer.proofs.relex.lexed.settled.Lexed+S+Fragment.settled.Goals as goal

pub returns-clause-settled : goal.returns-clause-settled
returns-clause-settled g c =
    let held = c.args.self.now in
    let is : IsText held.text =
    subst IsText c.text-text.ensures.text (record { utf8 = c.text-text.utf8; fits = c.text-text.ensures.fits }) in
    let tokens : List Token = tokens_by (g.S.Stepper.grammar held.stepper).first held.text in
    let scratch : held.tokens ≡ tokens = sym c.tokens-tokens.ensures.tokens ∙ c.tokens-tokens.ensures.from_scratch in
    let law = g.S.Stepper.law held.stepper in
    let front : IsFront held.text tokens (map (λ (t : Token). t.len) c.tokens-tokens.result.now) c.text-text.result.now
    (length c.text-text.result.now) =
    rw (c.text-text.ensures.text, c.tokens-tokens.ensures.from_scratch) record
    { utf8 = is.utf8; cuts = cuts law held.text is; lengths_are = refl; same = refl } in
    let found = rw c.text-text.ensures.text at
    (c.kept_front.ensures.front held.text tokens front
    (rw (c.text-text.ensures.text, c.tokens-tokens.ensures.from_scratch)
    (omega arith, sym (bound-last law held.text is)))) in
    rw scratch (settled_at law held.text is c.kept_front.result found.0 found.1 found.2)

pub returns-clause-stays : goal.returns-clause-stays
returns-clause-stays g c =
    let held = c.args.self.now in
    let is : IsText held.text =
    subst IsText c.text-text.ensures.text (record { utf8 = c.text-text.utf8; fits = c.text-text.ensures.fits }) in
    let scratch : held.tokens ≡ tokens_by (g.S.Stepper.grammar held.stepper).first held.text =
    sym c.tokens-tokens.ensures.tokens ∙ c.tokens-tokens.ensures.from_scratch in
    stays (g.S.Stepper.law held.stepper) held.text is c.kept_front.result.offset
    (subst (λ (ts : List Token). IsSettled held.text ts c.kept_front.result.offset) scratch
    (returns-clause-settled g c))
