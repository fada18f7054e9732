use Rattle.std.proofs.Common.{◌≡◌, true, false, refl, sym, arith, ap, ◌∙◌}
use Rattle.std.specs.{Option.{option_to_list}}
use Rattle.rustc_literal_escaper.specs.Meaning.{is_single}
use Rattle.rustc_literal_escaper.proofs.AnswerLemmas.{errors_of-single}
use Rattle.rustc_literal_escaper.proofs.RunLemmas.{errors_of-past}
use Rattle.rustc_literal_escaper.proofs.escape_errors.EscapeErrors.new.Goals as goal

pub returns-then-not-in_double_quotes : goal.returns-then-not-in_double_quotes
returns-then-not-in_double_quotes c =
    let single : is_single c.args.mode ≡ true =
    grind (arith, c.in_double_quotes.ensures, c.if-not-in_double_quotes.true) in
    rw single (ap option_to_list c.error_in_single.ensures ∙ sym (errors_of-single c.args.mode c.args.src.now c.utf8.src single))

pub returns : goal.returns
returns c =
    let mode = c.args.mode in
    let double : is_single mode ≡ false = grind (arith, c.in_double_quotes.ensures, c.if-not-in_double_quotes.false) in
    let simple = rw c.is_raw-raw.ensures at c.split_simple.ensures.simple in
    rw (
      double,
      errors_of-past mode c.args.src.now c.split_simple.result.0.now c.split_simple.result.1.now double simple
          c.split_simple.ensures.whole,
      c.of_text.ensures,
      c.ending.ensures,
      c.is_raw-raw.ensures,
    )
    refl
