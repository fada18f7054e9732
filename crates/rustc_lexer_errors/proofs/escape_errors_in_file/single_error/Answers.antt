use Rattle.std.proofs.Common.{◌∙◌}
use Rattle.std.specs.Str.{chars}
use Rattle.rustc_lexer_errors.specs.LineEnds.{unix}
use Rattle.rustc_lexer_errors.proofs.FileErrorLemmas.{single_moved}
use Rattle.rustc_lexer_errors.proofs.escape_errors_in_file.single_error.Goals as goal

pub returns : goal.returns
returns c = (rw c.new.ensures at c.single_error.ensures) ∙ single_moved c.args.contents.now c.args.mode
    (unix (chars c.args.contents.now))
