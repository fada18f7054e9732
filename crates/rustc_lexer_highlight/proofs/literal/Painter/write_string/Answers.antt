use Rattle.std.proofs.Common.{ℕ, ◌+◌, ◌≤◌, List, Bool, arith, rules, refl, ap, ◌∙◌}
use Rattle.std.proofs.lemmas.Result.{on_ok_weaker}
use Rattle.rustc_lexer_errors.specs.LineEnds.{file_items}
use Rattle.rustc_lexer_highlight.proofs.LiteralLemmas.{paints_end, paints_item, placed_all, placed_first, writes_all}
use Rattle.rustc_lexer_highlight.proofs.LiteralLemmas.{writes_told}
use Rattle.rustc_lexer_highlight.proofs.literal.Painter.write_string.Goals as goal

pub loop-range-init : goal.loop-range-init
loop-range-init g c =
    let inside : List ℕ = c.range.result.now in
    let items = c.into_iter-range-iterator.ensures.into_iter_gives ∙ c.file_elements-range-items.ensures in
    record {
      format = refl;
      text = refl;
      cut = c.requires.cut;
      high = c.requires.order;
      places = placed_all c.args.self.now.text.now inside c.args.self.now.at c.args.close _ _ c.range.utf8 items
          c.range.ensures.value;
      left = λ w more. writes_all g.W.Write.write_str_gives _ _ _ _ _ inside _ _ _ w
          (items ∙ ap (λ (raw : Bool). file_items raw inside) c.is_raw.ensures) c.range.ensures.value more;
    }

pub overflow_add-start : goal.overflow_add-start
overflow_add-start g c =
    let at = placed_first _ _ _ _ _ _ c.requires.order c.requires.cut.second c.requires.close
    c.loop-range.invariant.places c.in-Some.ensures.steps in
    omega (arith, at.0.low, at.0.high, c.ranges.close.fits)

pub loop-range-preserved-then-start-self : goal.loop-range-preserved-then-start-self
loop-range-preserved-then-start-self g c =
    let inv = c.loop-range.invariant in
    let at = placed_first _ _ _ _ _ _ c.requires.order c.requires.cut.second c.requires.close
    c.loop-range.invariant.places c.in-Some.ensures.steps in
    record {
      format = inv.format;
      text = inv.text;
      cut = inv.cut;
      high = inv.high;
      places = at.1;
      left = λ w more. inv.left w
          (writes_told g.W.Write.write_str_gives _ _ _ _ _ _ _ _ _ _ _ w c.in-Some.ensures.steps
          c.if-start-self.true more);
    }

pub mark_skipped-requires-clause-start : goal.mark_skipped-requires-clause-start
mark_skipped-requires-clause-start g c =
    let inv = c.loop-range.invariant in
    let at = placed_first _ _ _ _ _ _ c.requires.order c.requires.cut.second c.requires.close
    c.loop-range.invariant.places c.in-Some.ensures.steps in
    rw inv.text at.0.at_start

pub overflow_add-begin : goal.overflow_add-begin
overflow_add-begin g c =
    let at = placed_first _ _ _ _ _ _ c.requires.order c.requires.cut.second c.requires.close
    c.loop-range.invariant.places c.in-Some.ensures.steps in
    omega (arith, at.0.high, c.ranges.close.fits)

pub mark-requires-clause-end : goal.mark-requires-clause-end
mark-requires-clause-end g c =
    let inv = c.loop-range.invariant in
    let at = placed_first _ _ _ _ _ _ c.requires.order c.requires.cut.second c.requires.close
    c.loop-range.invariant.places c.in-Some.ensures.steps in
    rw (c.in_ok-mark_skipped.ensures.text, inv.text) at.0.at_end

pub mark-requires-clause-order : goal.mark-requires-clause-order
mark-requires-clause-order g c =
    let at = placed_first _ _ _ _ _ _ c.requires.order c.requires.cut.second c.requires.close
    c.loop-range.invariant.places c.in-Some.ensures.steps in
    omega (arith, at.0.low, c.in_ok-mark_skipped.ensures.at)

pub loop-range-preserved : goal.loop-range-preserved
loop-range-preserved g c =
    let inv = c.loop-range.invariant in
    let at = placed_first _ _ _ _ _ _ c.requires.order c.requires.cut.second c.requires.close
    c.loop-range.invariant.places c.in-Some.ensures.steps in
    let skipped = c.in_ok-mark_skipped.ensures in
    let highlighted = c.in_ok-mark.ensures in
    let next : c.loop-range.self.at ≤ c.args.self.now.at + c.in-Some.range.start =
    omega (arith, c.if-start-self.false) in
    record {
      format = highlighted.format ∙ skipped.format ∙ inv.format;
      text = highlighted.text ∙ skipped.text ∙ inv.text;
      cut = highlighted.cut;
      high = omega (arith, at.0.high, highlighted.at);
      places = at.1;
      left = λ w more. inv.left w
          (paints_item g.W.Write.write_str_gives _ _ _ _ _ _ _ _ _ _ _ _ _ _ _ w
          c.in-Some.ensures.steps next c.look_of.ensures inv.format inv.text skipped highlighted more);
    }

pub returns : goal.returns
returns g c =
    let inv = c.loop-range.invariant in
    on_ok_weaker c.write_rest.result
    (λ wrote. inv.left c.write_rest.new.output
    (paints_end g.W.Write.write_str_gives _ _ _ _ _ _ _ _ _ _ _ (search rules) inv.format inv.text
    c.in_ok-mark_skipped-2.ensures wrote)) c.write_rest.ensures
