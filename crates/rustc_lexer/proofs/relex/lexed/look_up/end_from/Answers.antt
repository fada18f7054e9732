use Rattle.std.proofs.Common.{◌^◌, arith}
use Rattle.rustc_lexer.proofs.lemmas.edits.Offsets.{ahead_fits, ahead_is}
use Rattle.rustc_lexer.proofs.relex.lexed.look_up.end_from.Goals as goal

pub overflow_add-end : goal.overflow_add-end
overflow_add-end c = record {
  fits = ahead_fits c.args.tokens.now c.args.start c.loop-token.token-index c.loop-token.end _ c.loop-token.invariant
      c.loop-token-test.true c.requires (2 ^ 32) (omega arith);
}

pub loop-token-preserved : goal.loop-token-preserved
loop-token-preserved c =
    ahead_is c.args.tokens.now c.args.start c.loop-token.token-index c.loop-token.end _ c.loop-token.invariant
    c.loop-token-test.true
