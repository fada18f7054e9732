use Rattle.rustc_lexer.proofs.lemmas.tokens.RunEnds.{classified_table}
use Rattle.rustc_lexer.proofs.lexemes.family.classified_by.Goals as goal

pub returns : goal.returns
returns c = classified_table c.args.first _ c.ranges.first.fits
