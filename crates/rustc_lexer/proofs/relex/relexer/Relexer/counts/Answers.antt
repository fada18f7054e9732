use Rattle.std.proofs.{Common.{◌≡◌, List, ℕ, subst, sym, true}, lemmas.List.{length-map}}
use Rattle.rustc_lexer.specs.{Token, Locality.{IsGrammar}, Edits.{IsRelexed, fragment_by}, Tokens.{tokens_by}}
use Rattle.rustc_lexer.specs.Relexer.{IsRelexOf, IsWhole, RelexerModel}
use Rattle.rustc_lexer.proofs.lemmas.edits.UnderWay.{counts_exact}
use Rattle.rustc_lexer.proofs.relex.relexer.Relexer.counts.Goals as goal

pub returns-clause-exact : goal.returns-clause-exact
returns-clause-exact g c =
    subst (λ (r : RelexerModel). (first : List ℕ → Token) (before insert : List ℕ) → IsGrammar first
    → IsRelexOf first before insert r → r.at.met ≡ true
    → IsRelexed (fragment_by first) before r.change.start r.change.old_end insert c.counts.result
    × IsWhole (tokens_by first before) (tokens_by first r.text) r.at) c.self.view_is
    (λ first before insert law is. counts_exact law is.made_of is.under_way _
    (sym (length-map c.self.inside.old_tokens.now g.T.TextLen.bytes)) c.counts.ensures)
