use Rattle.std.proofs.Common.{◌≡◌, List, ℕ, false, refl, sym, ap, ◌∙◌, rules, arith}
use Rattle.rustc_literal_escaper.specs.declared.element.Element.{Element}
use Rattle.rustc_literal_escaper.specs.model.{Elements.{Front, front, one}, Escape.{escape}}
use Rattle.rustc_literal_escaper.proofs.SinkLemmas.{at_end, at_same, escape_reads, items_line, less_left, line_reads}
use Rattle.rustc_literal_escaper.proofs.SinkLemmas.{one_enough, one_more, plain_above, plain_reads}
use Rattle.rustc_literal_escaper.proofs.SinkLemmas.{takes_enough, takes_more}
use Rattle.rustc_literal_escaper.proofs.elements.each_escaped.Goals as goal

pub returns-in_default-clause-runs : goal.returns-in_default-clause-runs
returns-in_default-clause-runs g c =
    c.elements.invariant.2 _ _
    (at_end g.S.Sink.took _ false _ _ _ c.in_default.ensures.left.0 c.in_default.ensures.left.1)

pub returns-then-not-take-clause-runs : goal.returns-then-not-take-clause-runs
returns-then-not-take-clause-runs g c =
    let ys : List ℕ = g.T.Text.left c.next_char.new.self in
    c.elements.invariant.2 _ _
    (one_enough g.S.Sink.took false (g.T.Text.offset_of c.args.rest.now) c.in-Some.ensures.left
    (plain_above c.in-Some.c ys c.if-c-gt34.true c.if-c-ne92.true)
    (at_same _ c.offset-start.ensures c.elements.invariant.1)
    (at_same ys c.offset.ensures (c.in-Some.ensures.same ∙ c.elements.invariant.1)) c.take.ensures.took
    (search rules))

pub elements-preserved-then-c-ne92 : goal.elements-preserved-then-c-ne92
elements-preserved-then-c-ne92 g c =
    let ys : List ℕ = g.T.Text.left c.next_char.new.self in (
      c.take.ensures.ready,
      c.in-Some.ensures.same ∙ c.elements.invariant.1,
      λ last left runs. c.elements.invariant.2 last left
          (one_more g.S.Sink.took false (g.T.Text.offset_of c.args.rest.now) c.in-Some.ensures.left
          (plain_above c.in-Some.c ys c.if-c-gt34.true c.if-c-ne92.true)
          (at_same _ c.offset-start.ensures c.elements.invariant.1)
          (at_same ys c.offset.ensures (c.in-Some.ensures.same ∙ c.elements.invariant.1)) c.take.ensures.took
          (search rules) last left runs),
    )

pub returns-then-not-take-2-clause-runs : goal.returns-then-not-take-2-clause-runs
returns-then-not-take-2-clause-runs g c =
    let ys : List ℕ = g.T.Text.left c.next_char.new.self in
    let other : c.in-Some.c ≡ 92 → ⊥ = λ e. omega (arith, e, c.if-c-gt34.false) in
    c.elements.invariant.2 _ _
    (one_enough g.S.Sink.took false (g.T.Text.offset_of c.args.rest.now) c.in-Some.ensures.left
    (plain_reads c.in-Some.c ys other ∙ ap (λ (e : Element). one (e, ys)) (sym c.unescaped.ensures))
    (at_same _ c.offset-start.ensures c.elements.invariant.1)
    (at_same ys c.offset-else-c-gt34.ensures (c.in-Some.ensures.same ∙ c.elements.invariant.1))
    c.take-else-c-gt34.ensures.took (search rules))

pub elements-preserved-else-c-gt34 : goal.elements-preserved-else-c-gt34
elements-preserved-else-c-gt34 g c =
    let ys : List ℕ = g.T.Text.left c.next_char.new.self in
    let other : c.in-Some.c ≡ 92 → ⊥ = λ e. omega (arith, e, c.if-c-gt34.false) in (
      c.take-else-c-gt34.ensures.ready,
      c.in-Some.ensures.same ∙ c.elements.invariant.1,
      λ last left runs. c.elements.invariant.2 last left
          (one_more g.S.Sink.took false (g.T.Text.offset_of c.args.rest.now) c.in-Some.ensures.left
          (plain_reads c.in-Some.c ys other ∙ ap (λ (e : Element). one (e, ys)) (sym c.unescaped.ensures))
          (at_same _ c.offset-start.ensures c.elements.invariant.1)
          (at_same ys c.offset-else-c-gt34.ensures (c.in-Some.ensures.same ∙ c.elements.invariant.1))
          c.take-else-c-gt34.ensures.took (search rules) last left runs),
    )

pub returns-then-not-warn_of_lines-clause-runs : goal.returns-then-not-warn_of_lines-clause-runs
returns-then-not-warn_of_lines-clause-runs g c =
    let items : _ ≡ _ = items_line (g.T.Text.offset_of c.args.rest.now) c.offset-start.result c.in-Some.c
    (g.T.Text.left c.elements.rest) (g.T.Text.left c.next_char.new.self) (g.T.Text.left c.next_char-next.new.self)
    (g.T.Text.left c.pass_over-lines.new.rest) c.pass_over-lines.result c.next_char-next.result
    c.in-Some.ensures.left c.if-c-ne92.false c.next_char-next.ensures.left
    (c.is_newline.ensures.found c.if-is_newline.true) (at_same _ c.offset-start.ensures c.elements.invariant.1)
    c.pass_over-lines.ensures.newline c.pass_over-lines.ensures.left in
    let same = c.pass_over-lines.ensures.same
    ∙ (c.next_char-next.ensures.same ∙ (c.in-Some.ensures.same ∙ c.elements.invariant.1)) in
    c.elements.invariant.2 _ _
    (rw items (takes_enough g.S.Sink.took c.warn_of_lines.result _ _ _ _ (rw same at c.warn_of_lines.ensures.takes)
    (search rules)))

pub returns-then-not-warn_of_space-clause-runs : goal.returns-then-not-warn_of_space-clause-runs
returns-then-not-warn_of_space-clause-runs g c =
    let items : _ ≡ _ = items_line (g.T.Text.offset_of c.args.rest.now) c.offset-start.result c.in-Some.c
    (g.T.Text.left c.elements.rest) (g.T.Text.left c.next_char.new.self) (g.T.Text.left c.next_char-next.new.self)
    (g.T.Text.left c.pass_over-lines.new.rest) c.pass_over-lines.result c.next_char-next.result
    c.in-Some.ensures.left c.if-c-ne92.false c.next_char-next.ensures.left
    (c.is_newline.ensures.found c.if-is_newline.true) (at_same _ c.offset-start.ensures c.elements.invariant.1)
    c.pass_over-lines.ensures.newline c.pass_over-lines.ensures.left in
    let same = c.pass_over-lines.ensures.same
    ∙ (c.next_char-next.ensures.same ∙ (c.in-Some.ensures.same ∙ c.elements.invariant.1)) in
    c.elements.invariant.2 _ _
    (rw items (takes_more g.S.Sink.took c.warn_of_lines.result _ _ _ _ _ _
    (rw same at c.warn_of_lines.ensures.takes) (search rules)
    (takes_enough g.S.Sink.took c.warn_of_space.result _ _ _ _ (rw same at c.warn_of_space.ensures.takes)
    (search rules))))

pub elements-smaller-then-is_newline : goal.elements-smaller-then-is_newline
elements-smaller-then-is_newline g c =
    let less = less_left c.in-Some.c _ (g.T.Text.left c.next_char.new.self) _ c.in-Some.ensures.left
    (ap (λ (f : Front). f.left) (line_reads c.in-Some.c _ (g.T.Text.left c.next_char-next.new.self) _ c.if-c-ne92.false
    c.next_char-next.ensures.left (c.is_newline.ensures.found c.if-is_newline.true))
    ∙ sym c.pass_over-lines.ensures.left) in
    omega (arith, less, c.skip_ignored.ensures.shorter)

pub elements-preserved-then-is_newline : goal.elements-preserved-then-is_newline
elements-preserved-then-is_newline g c =
    let items : _ ≡ _ = items_line (g.T.Text.offset_of c.args.rest.now) c.offset-start.result c.in-Some.c
    (g.T.Text.left c.elements.rest) (g.T.Text.left c.next_char.new.self) (g.T.Text.left c.next_char-next.new.self)
    (g.T.Text.left c.pass_over-lines.new.rest) c.pass_over-lines.result c.next_char-next.result
    c.in-Some.ensures.left c.if-c-ne92.false c.next_char-next.ensures.left
    (c.is_newline.ensures.found c.if-is_newline.true) (at_same _ c.offset-start.ensures c.elements.invariant.1)
    c.pass_over-lines.ensures.newline c.pass_over-lines.ensures.left in
    let same = c.pass_over-lines.ensures.same
    ∙ (c.next_char-next.ensures.same ∙ (c.in-Some.ensures.same ∙ c.elements.invariant.1)) in (
      c.warn_of_space.ensures.ready,
      c.skip_ignored.ensures.same ∙ same,
      λ last rest runs. c.elements.invariant.2 last rest
          (rw items (takes_more g.S.Sink.took c.warn_of_lines.result _ _ last _ _ rest
          (rw same at c.warn_of_lines.ensures.takes) (search rules)
          (takes_more g.S.Sink.took c.warn_of_space.result _ _ last _ _ rest (rw same at c.warn_of_space.ensures.takes)
          (search rules) (c.skip_ignored.ensures.runs _ last rest runs)))),
    )

pub returns-then-not-take_escape-clause-runs : goal.returns-then-not-take_escape-clause-runs
returns-then-not-take_escape-clause-runs g c =
    let ys : List ℕ = g.T.Text.left c.next_char.new.self in
    let begins = c.next_char-next.ensures.left in
    let left = c.take_escape.ensures.left ys begins in
    let reads : front c.in-Some.c ys ≡ one (escape ys) = escape_reads c.in-Some.c ys _ _ c.if-c-ne92.false
    (c.is_newline.ensures.none c.if-is_newline.false ys _ begins) refl in
    let same = c.next_char-next.ensures.same ∙ (c.in-Some.ensures.same ∙ c.elements.invariant.1) in
    c.elements.invariant.2 _ _
    (rw left (one_enough g.S.Sink.took false (g.T.Text.offset_of c.args.rest.now) c.in-Some.ensures.left
    reads
    (at_same _ c.offset-start.ensures c.elements.invariant.1) (at_same _ refl same)
    (c.take_escape.ensures.took ys begins) (search rules)))

pub elements-smaller : goal.elements-smaller
elements-smaller g c =
    let ys : List ℕ = g.T.Text.left c.next_char.new.self in
    let begins = c.next_char-next.ensures.left in
    let left = c.take_escape.ensures.left ys begins in
    let reads : front c.in-Some.c ys ≡ one (escape ys) = escape_reads c.in-Some.c ys _ _ c.if-c-ne92.false
    (c.is_newline.ensures.none c.if-is_newline.false ys _ begins) refl in
    let less = less_left c.in-Some.c _ ys _ c.in-Some.ensures.left (ap (λ (f : Front). f.left) reads ∙ sym left) in
    omega (arith, less, c.skip_ignored-in-elements.ensures.shorter)

pub elements-preserved : goal.elements-preserved
elements-preserved g c =
    let ys : List ℕ = g.T.Text.left c.next_char.new.self in
    let begins = c.next_char-next.ensures.left in
    let left = c.take_escape.ensures.left ys begins in
    let reads : front c.in-Some.c ys ≡ one (escape ys) = escape_reads c.in-Some.c ys _ _ c.if-c-ne92.false
    (c.is_newline.ensures.none c.if-is_newline.false ys _ begins) refl in
    let same = c.next_char-next.ensures.same ∙ (c.in-Some.ensures.same ∙ c.elements.invariant.1) in (
      c.take_escape.ensures.ready,
      c.skip_ignored-in-elements.ensures.same ∙ (c.take_escape.ensures.same ∙ same),
      λ last rest runs. c.elements.invariant.2 last rest
          (one_more g.S.Sink.took false (g.T.Text.offset_of c.args.rest.now) c.in-Some.ensures.left
          reads
          (at_same _ c.offset-start.ensures c.elements.invariant.1) (at_same _ refl same)
          (c.take_escape.ensures.took ys begins) (search rules) last rest
          (rw left at (c.skip_ignored-in-elements.ensures.runs _ last rest runs))),
    )
