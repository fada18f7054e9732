use Rattle.std.proofs.Common.{◌+◌, ℕ, List, length-drop, get_or, arith}
use lib.Count.{count_trailing_zeros}
use Rattle.rustc_lexer.specs.model.Ends.{IsLowest, StaysWithin}
use Rattle.rustc_lexer.proofs.lemmas.tokens.Bits.{lowest_is}
use Rattle.rustc_lexer.proofs.lemmas.tokens.RunEnds.{TellsNext, classified_after, classified_ahead, classified_bound}
use Rattle.rustc_lexer.proofs.lemmas.tokens.RunEnds.{classified_first, classified_inside, classified_stays}
use Rattle.rustc_lexer.proofs.entry.ahead.Ahead.take.Goals as goal
use Rattle.rustc_lexer.proofs.entry.ahead.Ahead.take.Goals.{then-is_some-via-then-is_some}
use Rattle.rustc_lexer.proofs.entry.ahead.Ahead.take.Goals.{then-is_some-via-else-is_some+then-not-may_continue}

pub bounds-as_bytes-end : goal.bounds-as_bytes-end
bounds-as_bytes-end c =
    let low = lowest_is c.ends_ahead-block.result.1 (omega (arith, c.if-ends-ne0.true)) (omega arith) in
    let inside = (c.ends_ahead-block.ensures.known _ low.set).1 in
    let left = length-drop c.ends_ahead-block.result.0 c.args.text.now in
    omega (arith, inside, left, c.as_bytes.ensures.len)

pub overflow_sub-len : goal.overflow_sub-len
overflow_sub-len c =
    let low = lowest_is c.ends_ahead-block.result.1 (omega (arith, c.if-ends-ne0.true)) (omega arith) in
    let after = (c.ends_ahead-block.ensures.known _ low.set).0 in
    omega (arith, after, c.ends_ahead-block.ensures.behind)

pub returns-then-is_some : goal.returns-then-is_some
returns-then-is_some c =
    let known = c.requires in
    let text : List ℕ = c.args.text.now in
    let at : ℕ = c.args.self.now.at in
    let block : ℕ = c.ends_ahead-block.result.0 in
    let ends : ℕ = c.ends_ahead-block.result.1 in
    let low : ℕ = count_trailing_zeros 64 ends in
    let lowest : IsLowest ends low = lowest_is ends (omega (arith, c.if-ends-ne0.true)) (omega arith) in
    let is = rw c.in_ok-kind.is at c.branch-kind.ensures in
    let stays : StaysWithin c.in_ok-kind.kind (get_or c.as_bytes.result.now (block + low) 0) =
    elim c.then-is_some.branch [
      | then-is_some-via-then-is_some w ↦ classified_stays c.in_ok-kind.kind _
          (cc (c.classified_by-classified.ensures, w.if-is_some.ensures))
      | then-is_some-via-else-is_some+then-not-may_continue w ↦ w.may_continue.ensures w.if-not-may_continue.true
    ] in
    let next : TellsNext text at block ends low c.in_ok-kind.kind = record {
      utf8 = c.utf8.text;
      bound = known.bound;
      behind = c.ends_ahead-block.ensures.behind;
      small = omega arith;
      tells = (known.next c.in_ok-kind.kind is).tells;
      known = c.ends_ahead-block.ensures.known;
      lowest = lowest;
      stays = rw c.as_bytes.ensures.value at stays;
    } in
    let ahead = classified_ahead next c.past_lowest-self.result
    (λ k le. c.past_lowest-self.ensures.gone low k lowest le)
    (λ k l. c.past_lowest-self.ensures.others low k lowest l) in
    let after = classified_after next in
    record {
      utf8 = c.utf8.text;
      classified = is;
      some = let inside = classified_inside next in
          omega (arith, after, inside);
      first = classified_first next;
      offset = omega (arith, after);
      tells = record {
        fits = known.fits;
        bound = classified_bound next;
        behind = omega arith;
        small = omega arith;
        past = λ j after set. let r = ahead j set in (r.1, r.2);
        next = λ kind e. record {
          tells = cc (c.as_bytes.ensures.value, c.classified_by-classified.ensures, e);
          ahead = ahead;
        };
      };
    }
