-- A grammar whose tokens are single characters.
use Rattle.std.proofs.Common.{◌≡◌, ℕ, ◌<◌, List, [], ◌∷◌, length, refl, sym, ap, ◌∙◌, subst, arith, chars}
use Rattle.std.proofs.lemmas.Str.{length-le-encodes}
use Rattle.std.specs.Str.{IsCharBoundary}
use Rattle.rustc_lexer.specs.declared.token.Token.{Token}
use Rattle.rustc_lexer.specs.declared.token.TokenKind.TheVariants.{Unknown, Eof}
use Rattle.rustc_lexer.specs.Classes.{bytes, IsText}
use Rattle.rustc_lexer.specs.Locality.{AgreePast, IsGrammar}
use Rattle.rustc_lexer.specs.laws.LanguageFront.{empty-text, split, split-boundary, split-same, Split}

abbrev pub of_chars : List ℕ → Token
of_chars [] = record { kind = Eof; len = 0 }
of_chars (c ∷ cs) = record { kind = Unknown; len = bytes (c ∷ []) }

-- The first token of a text is its first character.
abbrev pub character : List ℕ → Token
character text = of_chars (chars text)

-- A non-empty text consists of its first character and the rest.
record Parts (text : List ℕ) : Type 0 where
  c : ℕ
  cs : List ℕ
  whole : chars text ≡ c ∷ cs
  len : (character text).len ≡ bytes (c ∷ [])
  at : Split text (c ∷ []) cs

parts : (text : List ℕ) → IsText text → 0 < length text → Parts text
parts text is some = by_chars (chars text) refl
  where
    by_chars : (cs : List ℕ) → chars text ≡ cs → Parts text
    by_chars [] e = absurd (omega (arith, some, ap length (empty-text text is e)))
    by_chars (c ∷ cs) e =
        record {
          c = c;
          cs = cs;
          whole = e;
          len = ap (λ (xs : List ℕ). (of_chars xs).len) e;
          at = split text (c ∷ []) cs is e;
        }

same_token : (text other : List ℕ) → Parts text → AgreePast (character text).len text other
    → character other ≡ character text
same_token text other p agree =
    let here : AgreePast (bytes (p.c ∷ [])) text other =
    subst (λ (k : ℕ). AgreePast k text other) p.len agree in
    ap of_chars (split-same other p.at here.below) ∙ sym (ap of_chars p.whole)

pub character_grammar : IsGrammar character
character_grammar = record {
  not_empty = λ text is some. let p =
      parts text is some in omega (arith, p.len, length-le-encodes (p.c ∷ []));
  boundary = λ text is some. let p =
      parts text is some in subst (IsCharBoundary text) (sym p.len) (split-boundary is p.at);
  local = λ text other is of some agree. same_token text other (parts text is some) agree;
}
