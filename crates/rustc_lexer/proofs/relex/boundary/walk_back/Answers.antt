use Rattle.std.proofs.Common.{arith}
use Rattle.rustc_lexer.proofs.lemmas.edits.{Offsets.{back}, ByLengths.{as_many}}
use Rattle.rustc_lexer.proofs.relex.boundary.walk_back.Goals as goal

pub returns-then-near-tokens-clause-bound : goal.returns-then-near-tokens-clause-bound
returns-then-near-tokens-clause-bound g c = λ first ts is.
    absurd (omega (
      arith,
      is.number,
      as_many g.T.TextLen.bytes c.args.tokens.now ts is.lengths_are,
      c.if-near-tokens.true,
    ))

pub loop-at-preserved : goal.loop-at-preserved
loop-at-preserved g c = (
  omega arith,
  λ first ts is. rw c.saturating_sub.ensures
      (back g.T.TextLen.bytes c.args.tokens.now first ts c.loop-at.at (c.loop-at.invariant.1 first ts is) _ _
      c.len.ensures c.index-tokens-index.is c.loop-at-test.true),
)
