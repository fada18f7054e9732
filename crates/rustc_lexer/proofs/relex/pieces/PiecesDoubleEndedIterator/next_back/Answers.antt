use Rattle.std.proofs.{Common.{sym, ◌∙◌, arith, length-append}, lemmas.Grind.{common_steps}}
use Rattle.rustc_lexer.proofs.lemmas.edits.Pieces.{cut_edges, cut_front, last_piece}
use Rattle.rustc_lexer.proofs.relex.pieces.PiecesDoubleEndedIterator.next_back.Goals as goal

pub overflow_sub-start : goal.overflow_sub-start
overflow_sub-start c =
    (cut_front c.self.inside.text.now c.self.inside.start c.self.inside.end _ _ _ c.in_ok-token.ensures.cases.0
    c.self.invariant).0

pub range-requires : goal.range-requires
range-requires c =
    let front = cut_front c.self.inside.text.now c.self.inside.start c.self.inside.end _ _ _
    c.in_ok-token.ensures.cases.0 c.self.invariant in
    record {
      start_le_end = omega arith;
      start_boundary = λ some. (cut_edges c.self.inside.text.now c.self.inside.start _ _ front.1).1;
      end_boundary = (cut_edges c.self.inside.text.now c.self.inside.start c.self.inside.end _ c.self.invariant).1;
    }

pub invariant_of-self : goal.invariant_of-self
invariant_of-self c =
    (cut_front c.self.inside.text.now c.self.inside.start c.self.inside.end _ _ _ c.in_ok-token.ensures.cases.0
    c.self.invariant).1

pub returns-clause-steps : goal.returns-clause-steps
returns-clause-steps c =
    let last = last_piece c.self.inside.text.now c.self.inside.start c.self.inside.end _ _ _
    c.in_ok-token.ensures.cases.0 c.self.invariant in
    let front = cut_front c.self.inside.text.now c.self.inside.start c.self.inside.end _ _ _
    c.in_ok-token.ensures.cases.0 c.self.invariant in (
      rw (c.range.ensures.value) (sym c.self.view_is ∙ last),
      omega (arith, c.range.ensures.len, front.0),
      omega (arith, front.0),
    )

pub returns-clause-goes : goal.returns-clause-goes
returns-clause-goes c =
    let last = last_piece c.self.inside.text.now c.self.inside.start c.self.inside.end _ _ _
    c.in_ok-token.ensures.cases.0 c.self.invariant in
    grind (arith, common_steps, length-append)
