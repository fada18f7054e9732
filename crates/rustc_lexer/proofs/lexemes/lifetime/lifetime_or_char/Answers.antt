use Rattle.std.proofs.Common.{sym, arith}
use Rattle.rustc_lexer.proofs.lemmas.tokens.Lifetimes.{first-length, pick-name, at_char}
use Rattle.rustc_lexer.specs.laws.Scan.{scan_lemmas}
use Rattle.std.proofs.lemmas.Grind.{common_steps}
use Rattle.rustc_lexer.proofs.lexemes.lifetime.lifetime_or_char.Goals as goal

pub lifetime-requires : goal.lifetime-requires
lifetime-requires c =
    omega (arith, first-length _ _ _ c.utf8.tail c.in-Some-split_first.ensures.0 c.in-Some-split_first.ensures.1)

pub returns-else-is_character : goal.returns-else-is_character
returns-else-is_character c =
    pick-name _ _ _ c.utf8.tail c.in-Some-split_first.ensures.0 c.in-Some-split_first.ensures.1 _
    (sym c.if-is_character.ensures) c.lifetime.ensures

pub returns-in-Some : goal.returns-in-Some
returns-in-Some c = at_char _ _ c.in-Some.ensures.0 (grind (arith, common_steps, scan_lemmas))
