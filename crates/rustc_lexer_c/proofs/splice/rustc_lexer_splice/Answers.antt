use Rattle.std.proofs.Common.{◌+◌, ◌≤◌, length, arith}
use Rattle.rustc_lexer_c.proofs.SpliceLemmas.{put_between}
use Rattle.rustc_lexer_c.proofs.splice.rustc_lexer_splice.Goals as goal

pub returns : goal.returns
returns c =
    let inside : c.args.count.now ≤ length c.args.buffer.now = omega (arith, c.if-old-places.false) in
    let apart : c.args.kept_front + c.args.kept_back ≤ c.args.count.now =
    omega (arith, c.if-kept_front-old.false, c.if-kept_back-old.false) in
    let room : c.args.kept_front + length c.args.lexed.now + c.args.kept_back ≤ length c.args.buffer.now =
    omega (arith, inside, apart, c.if-lexed-places.false) in
    record {
      list = λ _. rw c.done.ensures.written
          (put_between _ _ _ _ _ apart inside room _ _ c.copy_within.ensures.after c.put.ensures);
      count_is = λ _. c.done.ensures.written;
      refused = λ not. absurd (not c.done.ensures.status);
      ok = λ _ _. c.done.ensures.status;
      invalid_edit = λ not. absurd (not (inside, apart));
      small_buffer = λ _ small. absurd (omega (arith, small, room));
    }
