use Rattle.std.proofs.{Common.{arith, length, ◌-◌, ◌/◌, IsCharBoundary}, lemmas.Grind.{common_steps}}
use Rattle.std.proofs.lemmas.Slice.Eq.{bytes_eq-Decides}
use Rattle.rustc_lexer.proofs.lemmas.edits.InCommon.{back_differs, back_less, back_more, shorter}
use Rattle.rustc_lexer.proofs.relex.diff.common_suffix.Goals as goal

pub halves-preserved-then-eq : goal.halves-preserved-then-eq
halves-preserved-then-eq c = record {
  less = omega arith;
  in_old = c.halves.invariant.in_old;
  in_new = c.halves.invariant.in_new;
  back = back_more _ _ _ _ _ c.halves.invariant.back (omega arith) (omega arith) (omega arith)
      (grind (arith, common_steps, bytes_eq-Decides));
  longest = c.halves.invariant.longest;
}

pub halves-preserved : goal.halves-preserved
halves-preserved c = record {
  less = omega arith;
  in_old = omega arith;
  in_new = omega arith;
  back = c.halves.invariant.back;
  longest = λ n is. omega (
    arith,
    back_differs c.args.old.now c.args.new.now c.args.start c.halves.back
        (c.halves.most - (c.halves.most - c.halves.back) / 2) n is (omega arith)
        (λ same. grind (arith, common_steps, bytes_eq-Decides, same)),
  );
}

pub chars-preserved : goal.chars-preserved
chars-preserved c = record {
  back = back_less _ _ _ _ _ c.chars.invariant.back (omega arith);
  longest = λ n is at. omega (
    arith,
    shorter (λ k. IsCharBoundary c.args.old.now (length c.args.old.now - k)) c.is_char_boundary.ensures.test
        c.chars-test.true at (c.chars.invariant.longest n is at),
  );
}
