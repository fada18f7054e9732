use Rattle.std.proofs.{Common.{true≢false, arith, not, sym, ap, refl, ◌∙◌}, lemmas.Bool.{not-false}}
use Rattle.rustc_lexer.specs.laws.Same.{same_token, token_same}
use Rattle.rustc_lexer.proofs.lemmas.joined.Joined.{seam_start, seam_end, seam_rises, seam_more, seam_differs}
use Rattle.rustc_lexer.proofs.relex.joined.is_token_boundary.Goals as goal

pub loop-offset-init : goal.loop-offset-init
loop-offset-init c = seam_start c.args.edition c.args.text.now c.args.at c.utf8.text

pub returns-then-ne-clause-touch : goal.returns-then-ne-clause-touch
returns-then-ne-clause-touch c = (
  λ t. absurd (true≢false (sym t)),
  λ touch. absurd (seam_differs record
      { utf8 = c.utf8.text; fits = c.requires.fits } c.requires.boundary c.loop-offset.invariant c.loop-offset-test.true
      (rw c.range.ensures.value at c.token_in-alone.ensures.token)
      (rw c.range_from.ensures.value at c.token_in-together.ensures.token)
      (λ e. true≢false (sym c.if-ne.true ∙ (c.ne.ensures ∙ ap not (token_same _ _ e)))) touch),
)

pub loop-offset-smaller : goal.loop-offset-smaller
loop-offset-smaller c =
    let rises = seam_rises record
    { utf8 = c.utf8.text; fits = c.requires.fits } c.requires.boundary c.loop-offset.invariant c.loop-offset-test.true
    (rw c.range.ensures.value at c.token_in-alone.ensures.token)
    (rw c.range_from.ensures.value at c.token_in-together.ensures.token) in
    omega (arith, c.requires.boundary.0)

pub loop-offset-preserved : goal.loop-offset-preserved
loop-offset-preserved c =
    seam_more record { utf8 = c.utf8.text; fits = c.requires.fits }
    c.requires.boundary c.loop-offset.invariant c.loop-offset-test.true
    (rw c.range.ensures.value at c.token_in-alone.ensures.token)
    (rw c.range_from.ensures.value at c.token_in-together.ensures.token)
    (same_token _ _ (not-false _ (sym c.ne.ensures ∙ c.if-ne.false)))

pub returns-clause-touch : goal.returns-clause-touch
returns-clause-touch c = (
  λ t. seam_end record { utf8 = c.utf8.text; fits = c.requires.fits }
      c.requires.boundary c.loop-offset.invariant c.loop-offset-test.false,
  λ touch. refl,
)
