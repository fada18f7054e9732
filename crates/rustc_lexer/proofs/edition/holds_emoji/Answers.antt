use Rattle.std.proofs.{Common.{rules}, Math.Bool.{not-not}}
use Rattle.rustc_lexer.proofs.lemmas.tokens.Identifiers.{word_all}
use Rattle.rustc_lexer.specs.laws.Past.{chars-past}
use Rattle.rustc_lexer.proofs.edition.holds_emoji.Goals as goal

pub returns : goal.returns
returns c = search (rules, chars-past, not-not, word_all)
