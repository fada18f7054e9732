use Rattle.std.proofs.Common.{rules}
use Rattle.rustc_lexer.proofs.lemmas.tokens.Editions.{year_words}
use Rattle.rustc_lexer.proofs.edition.EditionFromStr.from_str.Goals as goal

pub returns-in_default : goal.returns-in_default
returns-in_default c = rw (year_words.0, year_words.1, year_words.2, year_words.3) (search rules)
