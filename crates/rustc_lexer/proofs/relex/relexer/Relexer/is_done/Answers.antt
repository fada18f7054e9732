use Rattle.std.proofs.Common.{◌≡◌, List, ℕ, subst, length, eqb}
use Rattle.rustc_lexer.specs.{Token, Locality.{IsGrammar}, Relexer.{IsRelexOf, RelexerModel}}
use Rattle.rustc_lexer.proofs.lemmas.edits.UnderWay.{over_met}
use Rattle.rustc_lexer.proofs.relex.relexer.Relexer.is_done.Goals as goal

pub returns-else-self-clause-met : goal.returns-else-self-clause-met
returns-else-self-clause-met g c =
    subst (λ (r : RelexerModel). (first : List ℕ → Token) (before insert : List ℕ) → IsGrammar first
    → IsRelexOf first before insert r → eqb c.self.inside.at.at (length c.self.inside.text.now) ≡ r.at.met)
    c.self.view_is
    (λ first before insert law is. over_met law is.made_of is.under_way c.if-self.false)
