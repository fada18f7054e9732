use Rattle.std.proofs.Common.{refl}
use Rattle.rustc_literal_escaper.proofs.AnswerLemmas.{errors_of-single}
use Rattle.rustc_literal_escaper.proofs.check.check_for_errors.Goals as goal

pub returns-in-Char : goal.returns-in-Char
returns-in-Char g c =
    record {
      calls = (
        c.each_single_error.new.callback,
        rw (errors_of-single c.args.mode c.args.src.now c.utf8.src (rw c.in-Char.is refl))
            c.each_single_error.ensures.calls,
      );
    }

pub returns-in-Byte : goal.returns-in-Byte
returns-in-Byte g c =
    record {
      calls = (
        c.each_single_error-in-Byte.new.callback,
        rw (errors_of-single c.args.mode c.args.src.now c.utf8.src (rw c.in-Byte.is refl))
            c.each_single_error-in-Byte.ensures.calls,
      );
    }
