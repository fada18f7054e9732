use Rattle.std.proofs.Common.{◌≡◌, ◌+◌, ◌-◌, ℕ, map, arith, subst}
use Rattle.rustc_lexer.specs.Offsets.{ArePlaced}
use Rattle.rustc_lexer.proofs.lemmas.edits.Offsets.{ahead, before_all, contains, past_all}
use Rattle.rustc_lexer.proofs.relex.boundary.find_token.Goals as goal

pub returns-then-offset-at-clause-none : goal.returns-then-offset-at-clause-none
returns-then-offset-at-clause-none g c = λ none first ts is le.
    absurd (before_all g.T.TextLen.bytes c.args.tokens.now first ts c.walk_back-at.result
    (c.walk_back-at.ensures.bound first ts is) c.args.offset (c.walk_back-at.ensures.first c.if-offset-at.true)
    c.if-offset-at.true le)

pub ahead-init : goal.ahead-init
ahead-init g c = (
  omega arith,
  λ first ts is.
      let back : c.walk_back-at.result.offset ≡ c.args.offset - (c.args.offset - c.walk_back-at.result.offset) =
      omega (arith, c.if-offset-at.false) in
      subst (λ (n : ℕ). ArePlaced (map g.T.TextLen.bytes c.args.tokens.now) first ts
      (record { index = c.walk_back-at.result.index; offset = n })) back (c.walk_back-at.ensures.bound first ts is),
)

pub returns-then-left-len-clause-token : goal.returns-then-left-len-clause-token
returns-then-left-len-clause-token g c = λ first ts is.
    contains g.T.TextLen.bytes c.args.tokens.now first ts _ (c.ahead.invariant.1 first ts is) _ _ c.args.offset
    c.len-len.ensures c.index-tokens-index.is c.ahead-test.true (omega arith)
    (omega (arith, c.ahead.invariant.0, c.if-left-len.true))

pub ahead-preserved : goal.ahead-preserved
ahead-preserved g c = (
  omega (arith, c.ahead.invariant.0),
  λ first ts is.
      let next = ahead g.T.TextLen.bytes c.args.tokens.now first ts _ (c.ahead.invariant.1 first ts is) _ _
      c.len-len.ensures c.index-tokens-index.is c.ahead-test.true in
      let there : c.args.offset - c.ahead.left + c.len-len.result ≡ c.args.offset - (c.ahead.left - c.len-len.result) =
      omega (arith, c.ahead.invariant.0, c.if-left-len.false) in
      subst (λ (n : ℕ). ArePlaced (map g.T.TextLen.bytes c.args.tokens.now) first ts
      (record { index = c.ahead.index + 1; offset = n })) there next,
)

pub returns-clause-none : goal.returns-clause-none
returns-clause-none g c = λ none first ts is le.
    past_all g.T.TextLen.bytes c.args.tokens.now first ts _ (c.ahead.invariant.1 first ts is) c.args.offset
    (omega (arith, c.ahead-test.false)) (omega arith)
