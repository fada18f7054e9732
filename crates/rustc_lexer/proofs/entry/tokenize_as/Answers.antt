use Rattle.std.proofs.{lemmas.Grind.{common_steps}, Common.{rules, arith}, lemmas.Option.{none-some}}
use Rattle.std.proofs.lemmas.Str.{IsCharBoundary-start}
use Rattle.rustc_lexer.proofs.lemmas.tokens.KindsOfTexts.{suffixes, texts}
use Rattle.rustc_lexer.specs.laws.Tokens.{partitions}
use Rattle.rustc_lexer.proofs.lemmas.tokens.{Tokens.{restarts}, Bits.{bit-zero}}
use Rattle.rustc_lexer.proofs.entry.tokenize_as.Goals as goal

pub returns : goal.returns
returns c = search (rules, partitions, restarts, suffixes, texts)

pub invariant_of-result : goal.invariant_of-result
invariant_of-result c = grind (arith, common_steps, rules, IsCharBoundary-start, bit-zero, none-some)
