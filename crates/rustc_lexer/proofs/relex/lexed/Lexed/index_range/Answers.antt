use Rattle.std.proofs.Common.{rules}
use Rattle.rustc_lexer.proofs.lemmas.edits.Offsets.{touched_from}
use Rattle.rustc_lexer.proofs.relex.lexed.Lexed.index_range.Goals as goal

pub returns : goal.returns
returns g c = search (rules, touched_from)
