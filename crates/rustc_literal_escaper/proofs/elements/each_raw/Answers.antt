use Rattle.std.proofs.Common.{List, ℕ, true, sym, ap, ◌∙◌, rules}
use Rattle.rustc_literal_escaper.specs.declared.element.Element.{Element}
use Rattle.rustc_literal_escaper.specs.model.Elements.{one}
use Rattle.rustc_literal_escaper.proofs.SinkLemmas.{at_end, at_same, one_enough, one_more, raw_above, raw_reads}
use Rattle.rustc_literal_escaper.proofs.elements.each_raw.Goals as goal

pub returns-in_default-clause-runs : goal.returns-in_default-clause-runs
returns-in_default-clause-runs g c =
    c.characters.invariant.2 _ _
    (at_end g.S.Sink.took _ true _ _ _ c.in_default.ensures.left.0 c.in_default.ensures.left.1)

pub returns-then-not-take-clause-runs : goal.returns-then-not-take-clause-runs
returns-then-not-take-clause-runs g c =
    let ys : List ℕ = g.T.Text.left c.next_char.new.self in
    c.characters.invariant.2 _ _
    (one_enough g.S.Sink.took true (g.T.Text.offset_of c.args.rest.now) c.in-Some.ensures.left
    (raw_above c.in-Some.c ys c.if-c-gt13.true)
    (at_same _ c.offset-start.ensures c.characters.invariant.1)
    (at_same ys c.offset.ensures (c.in-Some.ensures.same ∙ c.characters.invariant.1)) c.take.ensures.took
    (search rules))

pub characters-preserved-then-c-gt13 : goal.characters-preserved-then-c-gt13
characters-preserved-then-c-gt13 g c =
    let ys : List ℕ = g.T.Text.left c.next_char.new.self in (
      c.take.ensures.ready,
      c.in-Some.ensures.same ∙ c.characters.invariant.1,
      λ last left runs. c.characters.invariant.2 last left
          (one_more g.S.Sink.took true (g.T.Text.offset_of c.args.rest.now) c.in-Some.ensures.left
          (raw_above c.in-Some.c ys c.if-c-gt13.true)
          (at_same _ c.offset-start.ensures c.characters.invariant.1)
          (at_same ys c.offset.ensures (c.in-Some.ensures.same ∙ c.characters.invariant.1)) c.take.ensures.took
          (search rules) last left runs),
    )

pub returns-then-not-take-2-clause-runs : goal.returns-then-not-take-2-clause-runs
returns-then-not-take-2-clause-runs g c =
    let ys : List ℕ = g.T.Text.left c.next_char.new.self in
    c.characters.invariant.2 _ _
    (one_enough g.S.Sink.took true (g.T.Text.offset_of c.args.rest.now) c.in-Some.ensures.left
    (raw_reads c.in-Some.c ys ∙ ap (λ (e : Element). one (e, ys)) (sym c.raw_element.ensures))
    (at_same _ c.offset-start.ensures c.characters.invariant.1)
    (at_same ys c.offset-in-characters.ensures (c.in-Some.ensures.same ∙ c.characters.invariant.1))
    c.take-in-characters.ensures.took (search rules))

pub characters-preserved : goal.characters-preserved
characters-preserved g c =
    let ys : List ℕ = g.T.Text.left c.next_char.new.self in (
      c.take-in-characters.ensures.ready,
      c.in-Some.ensures.same ∙ c.characters.invariant.1,
      λ last left runs. c.characters.invariant.2 last left
          (one_more g.S.Sink.took true (g.T.Text.offset_of c.args.rest.now) c.in-Some.ensures.left
          (raw_reads c.in-Some.c ys ∙ ap (λ (e : Element). one (e, ys)) (sym c.raw_element.ensures))
          (at_same _ c.offset-start.ensures c.characters.invariant.1)
          (at_same ys c.offset-in-characters.ensures (c.in-Some.ensures.same ∙ c.characters.invariant.1))
          c.take-in-characters.ensures.took (search rules) last left runs),
    )
