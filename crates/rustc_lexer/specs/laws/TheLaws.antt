-- The laws of the grammar, and the module that proves each.
use Rattle.std.proofs.Common.{refl}
use Rattle.rustc_lexer.specs.GrammarLaws.{TheLaws}
use Rattle.rustc_lexer.specs.laws.Language.{begins-one, token-alike}
use Rattle.rustc_lexer.specs.laws.LanguageIn.{newest_has}
use Rattle.rustc_lexer.specs.laws.TheAnswers.{the_tokens, the_first}

abbrev pub the_laws : TheLaws
the_laws = record {
  tokens = the_tokens;
  first = the_first;
  cut = λ edition text. refl;
  one_token = begins-one;
  newest = newest_has;
  looks_no_further = λ next other w kind p. token-alike p other;
}
