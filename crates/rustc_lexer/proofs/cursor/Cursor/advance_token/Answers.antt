use Rattle.std.proofs.Common.{refl, arith}
use Rattle.rustc_lexer.proofs.lemmas.tokens.Advance.{advances, advances_alone, ends, none_left, still_cursor}
use Rattle.rustc_lexer.proofs.lemmas.tokens.Advance.{suffix_within, whole_fits}
use Rattle.rustc_lexer.proofs.cursor.Cursor.advance_token.Goals as goal

pub returns-in_default : goal.returns-in_default
returns-in_default c =
    let steps = c.in_default.ensures.steps in
    let end = ends _ _ c.self.invariant _ c.self.view_is steps.0 in
    let left = none_left _ _ c.self.invariant _ c.self.view_is steps.0 in
    let same = rw (← steps.1) at c.self.view_is in
    record {
      token = rw end refl;
      state = rw end same;
      end = λ e. (left.0, left.1, refl, same);
      past = λ other. absurd (other refl);
    }

pub invariant_of-self-then-self-eq0 : goal.invariant_of-self-then-self-eq0
invariant_of-self-then-self-eq0 c = still_cursor _ _ c.self.invariant _ c.self.view_is _ _ c.in-Some.ensures.steps _
    (omega arith)

pub returns-then-self-eq0 : goal.returns-then-self-eq0
returns-then-self-eq0 c =
    let taken = advances_alone _ _ c.self.invariant _ c.self.view_is _ _ c.in-Some.ensures.steps c.if-self-eq0.true in
    record {
      token = taken.token_is;
      state = taken.state_is;
      end = λ e. absurd (taken.no_end e);
      past = λ other. taken.first;
    }

pub with_pending-requires : goal.with_pending-requires
with_pending-requires c = record {
  suffix = suffix_within _ _ c.self.invariant _ c.self.view_is _ _ c.in-Some.ensures.steps;
  fits = whole_fits _ _ c.self.invariant _ c.self.view_is _ _ c.in-Some.ensures.steps;
}

pub invariant_of-self-2 : goal.invariant_of-self-2
invariant_of-self-2 c = still_cursor _ _ c.self.invariant _ c.self.view_is _ _ c.in-Some.ensures.steps 0 (omega arith)

pub returns : goal.returns
returns c =
    let taken = advances _ _ c.self.invariant _ c.self.view_is _ _ c.in-Some.ensures.steps in
    rw c.with_pending.ensures record {
      token = taken.token_is;
      state = taken.state_is;
      end = λ e. absurd (taken.no_end e);
      past = λ other. taken.first;
    }
