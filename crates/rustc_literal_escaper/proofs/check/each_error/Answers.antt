use Rattle.rustc_literal_escaper.proofs.AnswerLemmas.{errors_of-items}
use Rattle.rustc_literal_escaper.proofs.RunLemmas.{errors-nothing, errors_of-past, simple_same}
use Rattle.rustc_literal_escaper.proofs.SinkLemmas.{folds_errors}
use Rattle.std.proofs.Common.{◌≡◌, ◌∙◌, ℕ, true, [], arith, length, refl, sym}
use Rattle.std.proofs.lemmas.Grind.{common_steps}
use Rattle.std.specs.Str.{chars}
use Rattle.rustc_literal_escaper.specs.{Meaning.{is_raw}, laws.Elements.{nothing}}
use Rattle.rustc_literal_escaper.specs.model.Elements.{place, raw_front}
use Rattle.rustc_literal_escaper.proofs.check.each_error.Goals as goal

pub returns-then-is_empty : goal.returns-then-is_empty
returns-then-is_empty g c =
    let mode = c.args.mode in
    let none : length c.args.src.now ≡ 0 = grind (arith, common_steps, c.is_empty.ensures, c.if-is_empty.true) in
    record {
      calls = (
        c.args.callback,
        rw (
            errors_of-items mode c.args.src.now c.requires.double
            ∙ errors-nothing (is_raw mode) (length c.args.src.now) mode c.args.src.now none
            )
            refl,
      );
    }

pub returns-then-is_short_and_simple : goal.returns-then-is_short_and_simple
returns-then-is_short_and_simple g c =
    let mode = c.args.mode in
    let raw : is_raw mode ≡ true = sym c.is_raw-raw.ensures ∙ c.if-raw.true in
    let total : ℕ = length c.args.src.now in
    let passes = c.is_short_and_simple.ensures c.if-is_short_and_simple.true in
    record {
      calls = (
        c.args.callback,
        rw (
          errors_of-items mode c.args.src.now c.requires.double,
          raw,
          sym (simple_same mode true total (chars c.args.src.now) [] passes),
          nothing raw_front (place total),
        )
            refl,
      );
    }

pub returns-then-is_empty-2 : goal.returns-then-is_empty-2
returns-then-is_empty-2 g c =
    let mode = c.args.mode in
    let left = c.split_simple.result.1.now in
    let simple = rw c.is_raw-raw.ensures at c.split_simple.ensures.simple in
    let none : length left ≡ 0 = grind (arith, common_steps, c.is_empty-2.ensures, c.if-is_empty-2.true) in
    record {
      calls = (
        c.args.callback,
        rw (
            errors_of-past mode c.args.src.now c.split_simple.result.0.now left c.requires.double simple
            c.split_simple.ensures.whole
            ∙ errors-nothing (is_raw mode) (length c.args.src.now) mode left none
            )
            refl,
      );
    }

pub returns-then-is_valid : goal.returns-then-is_valid
returns-then-is_valid g c =
    let simple = rw c.is_raw-raw.ensures at c.split_simple.ensures.simple in
    let none = rw c.is_raw-raw.ensures at (c.is_valid.ensures c.if-is_valid.true) in
    record {
      calls = (
        c.args.callback,
        rw (
            errors_of-past c.args.mode c.args.src.now c.split_simple.result.0.now c.split_simple.result.1.now
            c.requires.double simple c.split_simple.ensures.whole
            ∙ none
            )
            refl,
      );
    }

pub returns : goal.returns
returns g c =
    let runs = rw (c.ending.ensures, c.is_raw-raw.ensures) at c.each.ensures.runs in
    let simple = rw c.is_raw-raw.ensures at c.split_simple.ensures.simple in
    record {
      calls = (
        c.each.new.sink.callback,
        rw (errors_of-past c.args.mode c.args.src.now c.split_simple.result.0.now c.split_simple.result.1.now
            c.requires.double simple c.split_simple.ensures.whole)
            (folds_errors _ (λ s. s.callback) (λ s. s.mode) _ (λ s t i more took. took) runs),
      );
    }
