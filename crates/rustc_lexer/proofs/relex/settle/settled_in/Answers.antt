use Rattle.std.proofs.Common.{List, ap, subst}
use Rattle.rustc_lexer.specs.{Token, Locality.{Grammar, IsSettled}, Tokens.{tokens_by}, laws.Edition.{edition_grammar}}
use Rattle.rustc_lexer.proofs.lemmas.edits.Settled.{stays}
use Rattle.rustc_lexer.proofs.relex.settle.settled_in.Goals as goal

pub returns-clause-settled : goal.returns-clause-settled
returns-clause-settled c = subst (λ (tokens : List Token). IsSettled c.args.text.now tokens c.settled_by.result)
    (ap (λ (grammar : Grammar). tokens_by grammar.first c.args.text.now) c.new_in.ensures.grammar) c.settled_by.ensures

pub returns-clause-stays : goal.returns-clause-stays
returns-clause-stays c =
    stays (edition_grammar c.args.edition) _ record { utf8 = c.utf8.text; fits = c.requires.fits } _
    (returns-clause-settled c)
