use Rattle.std.proofs.Common.{◌<◌, length, arith}
use Rattle.rustc_lexer.specs.Tokens.{tokens_left}
use Rattle.rustc_lexer.proofs.lemmas.tokens.Buffers.{one_written, next_is, past_more, left_more}
use Rattle.rustc_lexer.proofs.entry.Tokens.fill.Goals as goal

pub places-preserved : goal.places-preserved
places-preserved g c =
    let inv = c.places.invariant in
    let s = c.args.self.now in
    let at = c.places.tokens in
    let past = c.next_outlined.new.self in
    let token = c.in-Some.token in
    let takes = c.in-Some.ensures in
    let fits : c.places.count < length c.places.buffer = omega arith in
    record {
      past = past_more s at past c.places.count token inv.past inv.left takes;
      left = left_more s at past c.places.count token inv.past inv.left takes;
      written = one_written g.R.FromToken.written (tokens_left s) (tokens_left past) c.args.buffer.now c.places.buffer
          c.places.count token inv.written
          (next_is s at past c.places.count token inv.past inv.left takes) fits c.from_token.result
          c.from_token.ensures;
    }
