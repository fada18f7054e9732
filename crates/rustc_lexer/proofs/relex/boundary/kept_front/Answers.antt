use Rattle.std.proofs.{Common.{◌≡◌, ◌≤◌, length, refl, sym, ◌∙◌, arith}, lemmas.Str.{IsCharBoundary-from_drop}}
use Rattle.rustc_lexer.specs.Partition.{bound}
use Rattle.rustc_lexer.proofs.lemmas.edits.KeptFront.{kept_is}
use Rattle.rustc_lexer.proofs.lemmas.edits.ByLengths.{as_many, next_stands, stand_alike, stood_before}
use Rattle.rustc_lexer.proofs.relex.boundary.kept_front.Goals as goal
use Rattle.rustc_lexer.proofs.relex.boundary.kept_front.Goals.{then-is_boundary_two_chars_before, else-is_boundary_two_chars_before}

pub loop-at-init : goal.loop-at-init
loop-at-init g c = elim c.if-is_boundary_two_chars_before.branch [
  | then-is_boundary_two_chars_before w ↦ rw w.at-is (
    c.walk_back-back.ensures.number,
    c.is_boundary_two_chars_before.ensures.boundary w.if-is_boundary_two_chars_before.true,
    stood_before _ _ _ c.is_boundary_two_chars_before.ensures.late w.if-is_boundary_two_chars_before.true,
    λ old ts is near.
        let at = c.walk_back-back.ensures.bound 0 ts record
        { lengths_are = is.lengths_are; number = near.0; offset = omega (arith, near.1) } in
        let there : c.walk_back-back.result.offset ≡ bound ts c.walk_back-back.result.index =
        omega (arith, at.offset) in (
          (at.number, there),
          λ some. sym (stand_alike old c.args.text.now c.walk_back-back.result.offset c.args.start c.is_boundary_two_chars_before.result
              is.utf8 c.utf8.text is.same c.requires.boundary.0
              (rw there (is.cuts c.walk_back-back.result.index at.number)) c.is_boundary_two_chars_before.ensures.late
              c.is_boundary_two_chars_before.ensures.two)
              ∙ w.if-is_boundary_two_chars_before.true,
        ),
  )
  | else-is_boundary_two_chars_before w ↦ rw w.at-is (
    omega arith,
    IsCharBoundary-from_drop c.args.text.now 0 (omega arith) c.utf8.text,
    omega arith,
    λ old ts is near. ((omega arith, refl), λ some. absurd (omega (arith, some))),
  )
]

pub loop-at-preserved : goal.loop-at-preserved
loop-at-preserved g c = (
  omega arith,
  c.is_boundary_two_chars_before-in-loop-at.ensures.boundary c.if-not-is_boundary_two_chars_before.false,
  stood_before _ _ _ c.is_boundary_two_chars_before-in-loop-at.ensures.late c.if-not-is_boundary_two_chars_before.false,
  λ old ts is near.
      let next = next_stands g.T.TextLen.bytes c.args.tokens.now is c.utf8.text c.requires.boundary.0 c.loop-at.at
      (c.loop-at.invariant.3 old ts is near).0 c.loop-at-test.true _ _ c.len.ensures c.index-tokens-at.is _
      c.is_boundary_two_chars_before-in-loop-at.ensures.late
      c.is_boundary_two_chars_before-in-loop-at.ensures.two in
      (next.0, λ some. sym next.1 ∙ c.if-not-is_boundary_two_chars_before.false),
)

pub returns-after-loop-at-clause-front : goal.returns-after-loop-at-clause-front
returns-after-loop-at-clause-front g c = λ old ts is near.
    let at = c.loop-at.invariant.3 old ts is near in
    let all : length ts ≤ c.loop-at.at.index =
    omega (arith, as_many g.T.TextLen.bytes c.args.tokens.now ts is.lengths_are, c.loop-at-test.false) in
    let number = kept_is old ts c.args.start is.utf8 is.cuts c.loop-at.at.index at.0.0 (rw (sym at.0.1) at.1)
    (λ few. absurd (omega (arith, few, all))) in
    (number, at.0, at.1)

pub returns-then-not-is_boundary_two_chars_before-clause-front : goal.returns-then-not-is_boundary_two_chars_before-clause-front
returns-then-not-is_boundary_two_chars_before-clause-front g c = λ old ts is near.
    let at = c.loop-at.invariant.3 old ts is near in
    let next = next_stands g.T.TextLen.bytes c.args.tokens.now is c.utf8.text c.requires.boundary.0 c.loop-at.at at.0
    c.loop-at-test.true _ _ c.len.ensures
    c.index-tokens-at.is _ c.is_boundary_two_chars_before-in-loop-at.ensures.late c.is_boundary_two_chars_before-in-loop-at.ensures.two in
    let number = kept_is old ts c.args.start is.utf8 is.cuts c.loop-at.at.index at.0.0 (rw (sym at.0.1) at.1)
    (λ few. rw (sym next.0.1) (sym next.1 ∙ c.if-not-is_boundary_two_chars_before.true)) in
    (number, at.0, at.1)
