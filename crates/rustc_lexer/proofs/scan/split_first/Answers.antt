use Rattle.std.proofs.Common.{rules, arith, length-append}
use Rattle.std.proofs.lemmas.{Str.{chars_past_char, length-encode, len_utf8_bounds}, Grind.{common_steps}}
use Rattle.rustc_lexer.specs.laws.Past.{past-one}
use Rattle.rustc_lexer.proofs.scan.split_first.Goals as goal

pub returns : goal.returns
returns c = grind (arith, common_steps, rules, chars_past_char, past-one, length-append, length-encode, len_utf8_bounds)
