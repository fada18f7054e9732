use Rattle.std.proofs.{Common.{arith}, lemmas.Grind.{common_steps}}
use Rattle.rustc_lexer.proofs.lemmas.edits.Pieces.{cut_edges, cut_tail}
use Rattle.rustc_lexer.proofs.relex.pieces.PiecesIterator.next.Goals as goal

pub overflow_add-end : goal.overflow_add-end
overflow_add-end c = grind (arith, common_steps, cut_tail, cut_edges)

pub range-requires : goal.range-requires
range-requires c =
    let tail = cut_tail c.self.inside.text.now c.self.inside.start c.self.inside.end _ _ _ c.in_ok-token.ensures.cases.0
    c.self.invariant in
    record {
      start_le_end = omega arith;
      start_boundary =
          λ some. (cut_edges c.self.inside.text.now c.self.inside.start c.self.inside.end _ c.self.invariant).0;
      end_boundary = (cut_edges _ _ _ _ tail).0;
    }

pub invariant_of-self : goal.invariant_of-self
invariant_of-self c =
    cut_tail c.self.inside.text.now c.self.inside.start c.self.inside.end _ _ _ c.in_ok-token.ensures.cases.0
    c.self.invariant
