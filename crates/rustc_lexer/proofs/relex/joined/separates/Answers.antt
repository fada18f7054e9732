use Rattle.std.proofs.Common.{true≢false, sym, ◌∙◌}
use Rattle.rustc_lexer.proofs.lemmas.joined.Joined.{separated_past}
use Rattle.rustc_lexer.proofs.relex.joined.separates.Goals as goal

pub returns-else-keeps_separator : goal.returns-else-keeps_separator
returns-else-keeps_separator c = (
  λ t. absurd (true≢false (sym t ∙ c.if-keeps_separator.false)),
  λ e. c.keeps_separator.ensures.1 (separated_past c.args.edition c.args.text.now c.args.at
      c.args.len record { utf8 = c.utf8.text; fits = c.requires.fits } c.requires.boundary e),
)
