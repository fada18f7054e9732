use Rattle.std.proofs.Common.{below_more, arith, ◌≡◌, ◌<◌, length}
use Rattle.rustc_lexer.specs.Tokens.{bound}
use Rattle.rustc_lexer.proofs.lemmas.edits.{KeptFront.{bound-next}, ByLengths.{as_many, as_long, no_token}}
use Rattle.rustc_lexer.proofs.relex.boundary.walk_forward.Goals as goal

pub loop-at-preserved : goal.loop-at-preserved
loop-at-preserved g c =
    let number = c.loop-at.at.index in
    let few = c.loop-at-test.true in (
      omega arith,
      omega arith,
      omega arith,
      λ ts are from before.
          let so = c.loop-at.invariant.3 ts are from before in
          let many = as_many g.T.TextLen.bytes c.args.tokens.now ts are in
          let fewer : number < length ts = omega (arith, many) in
          let test : c.loop-at.at.offset < c.args.target = c.if-at-target.true in
          let offset : c.loop-at.at.offset ≡ bound ts number = so.0.1 in
          let long = as_long g.T.TextLen.bytes c.args.tokens.now ts are number _ _ c.len.ensures c.index-tokens-at.is
          few in (
            (omega (arith, many), omega (arith, long, offset, bound-next ts number no_token fewer)),
            below_more _ _ so.1 (omega arith),
          ),
    )
