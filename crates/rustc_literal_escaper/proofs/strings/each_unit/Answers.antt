use Rattle.std.proofs.Common.{◌≡◌, arith, length, refl}
use Rattle.std.proofs.lemmas.Grind.{common_steps}
use Rattle.rustc_literal_escaper.proofs.RunLemmas.{folds-on, items-nothing, run-first, run-only, simple-values}
use Rattle.rustc_literal_escaper.proofs.SinkLemmas.{folds_items}
use Rattle.rustc_literal_escaper.proofs.strings.each_unit.Goals as goal

pub each_ascii-requires-clause-values : goal.each_ascii-requires-clause-values
each_ascii-requires-clause-values g c =
    simple-values c.args.raw c.split_simple.result.0.now c.split_simple.ensures.simple

pub returns-then-is_empty : goal.returns-then-is_empty
returns-then-is_empty g c =
    let text = c.args.src.now in
    let none : length text ≡ 0 = grind (arith, common_steps, c.is_empty.ensures, c.if-is_empty.true) in
    record { calls = (c.args.callback, rw (items-nothing c.args.raw (length text) text none) refl) }

pub returns-then-is_empty-2 : goal.returns-then-is_empty-2
returns-then-is_empty-2 g c =
    let split = c.split_simple.ensures in
    let none : length c.split_simple.result.1.now ≡ 0 = grind (arith, common_steps, c.is_empty-2.ensures, c.if-is_empty-2.true) in
    record {
      calls = (
        c.each_ascii.new.callback,
        folds-on _ c.args.callback c.each_ascii.new.callback c.each_ascii.new.callback _ _ _
            (run-only c.args.raw c.args.src.now _ _ split.simple split.whole split.text split.sizes none)
            c.each_ascii.ensures.calls refl,
      );
    }

pub returns : goal.returns
returns g c =
    let split = c.split_simple.ensures in
    record {
      calls = (
        c.each.new.sink.callback,
        folds-on _ c.args.callback c.each_ascii.new.callback c.each.new.sink.callback _ _ _
            (run-first c.args.raw c.args.src.now _ _ split.simple split.whole split.text split.sizes)
            c.each_ascii.ensures.calls
            (folds_items _ (λ s. s.callback) _ (λ s t i more took. took) (rw c.ending.ensures at c.each.ensures.runs)),
      );
    }
