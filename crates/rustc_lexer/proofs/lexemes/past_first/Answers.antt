use Rattle.std.proofs.Common.{sym, ap, ◌∙◌, inl, inr}
use Rattle.rustc_lexer.specs.declared.lexemes.family.Family.TheVariants.{Symbol}
use Rattle.rustc_lexer.proofs.lemmas.tokens.Families.{by_family}
use Rattle.rustc_lexer.specs.laws.Scan.{scanned-gives}
use Rattle.rustc_lexer.proofs.lexemes.past_first.Goals as goal

pub returns-in-Hash : goal.returns-in-Hash
returns-in-Hash c =
    let read = ap (λ k. (k, c.args.tail.now)) c.symbol_kind.ensures ∙ sym (scanned-gives _ _ c.utf8.tail) in
    elim c.in-Hash.is [
      | inl e ↦ absurd (c.requires.no_hash (sym c.family_of.ensures ∙ e))
      | inr e ↦
          by_family Symbol _ _ _ (sym e ∙ c.family_of.ensures) read
    ]
