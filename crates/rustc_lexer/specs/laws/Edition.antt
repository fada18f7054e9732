-- Two characters after its end decide the first token of an edition.
use Rattle.std.proofs.Common.{◌≡◌, ℕ, ◌≤◌, ◌<◌, List, ◌∷◌, length, take, drop, refl, sym, ap, ◌∙◌, subst, arith, chars}
use Rattle.std.specs.Str.{IsCharBoundary}
use Rattle.std.proofs.lemmas.{Str.{length-le-encodes}, Grind.{common_steps}}
use Rattle.rustc_lexer.specs.Locality.{IsGrammar, AgreePast}
use Rattle.rustc_lexer.specs.{Edition, Token, TokenKind}
use Rattle.rustc_lexer.specs.Classes.{bytes, IsText}
use Rattle.rustc_lexer.specs.GrammarLaws.{reach}
use Rattle.rustc_lexer.specs.Language.{IsTokenBefore}
use Rattle.rustc_lexer.specs.LanguageText.{newest, IsTokenIn, kept, pound, ident, lifetime, lifetime_r}
use Rattle.rustc_lexer.specs.laws.Ident.{begins_hash_ident-decided}
use Rattle.rustc_lexer.specs.laws.LanguageIn.{Front, first-front, token-read-in}
use Rattle.rustc_lexer.specs.laws.Language.{token-alike}
use Rattle.rustc_lexer.specs.laws.Reach.{cut, decided_same}
use Rattle.rustc_lexer.specs.laws.LanguageFront.{split, split-boundary, split-same, Split}
use Rattle.rustc_lexer.specs.model.Edition.{first_token_in}
use Rattle.rustc_lexer.specs.model.Ident.{begins_hash_ident}
use Rattle.rustc_lexer.specs.model.Lexeme.{first_token}

reach-two : (kind : TokenKind) (w : List ℕ) → reach kind w ≤ 2
reach-two kind w = grind (arith, common_steps)

two-alike : {next w : List ℕ} {kind : TokenKind} → IsTokenBefore next kind w → (other : List ℕ)
    → take 2 other ≡ take 2 next → IsTokenBefore other kind w
two-alike {next} {w} {kind} p other e = token-alike p other (cut (reach kind w) 2 other next (reach-two kind w) e)

-- A token of an edition is the same token before any text that starts with the same two characters.
in-alike : {edition : Edition} {next w : List ℕ} {kind : TokenKind} → IsTokenIn edition next kind w → (other : List ℕ)
    → take 2 other ≡ take 2 next → IsTokenIn edition other kind w
in-alike (kept le p) other e = kept le (two-alike p other e)
in-alike (pound lt) other e = pound lt
in-alike (ident lt p) other e = ident lt (two-alike p other e)
in-alike (lifetime lt p) other e = lifetime lt (two-alike p other e)
in-alike {next = next} (lifetime_r lt goes) other e =
    lifetime_r lt (decided_same 2 2 begins_hash_ident other next begins_hash_ident-decided (omega arith) e ∙ goes)

module _ (edition : Edition) where
  -- A text consists of its first token and the rest.
  record Parts (text : List ℕ) : Type 0 where
    at : Front edition (chars text) (first_token_in edition text)
    len : (first_token_in edition text).len ≡ bytes (at.c ∷ at.w)
    pieces : Split text (at.c ∷ at.w) at.next

  parts : (text : List ℕ) → IsText text → 0 < length text → Parts text
  parts text is some =
      let at = first-front edition text (chars text) is some refl in
      record {
        at = at;
        len = ap (λ (t : Token). t.len) at.same;
        pieces = split text (at.c ∷ at.w) at.next is
            (sym at.whole);
      }

  same_token : (text other : List ℕ) → Parts text → AgreePast (first_token_in edition text).len text other
      → first_token_in edition other ≡ first_token_in edition text
  same_token text other p agree =
      let n : ℕ = bytes (p.at.c ∷ p.at.w) in
      let here : AgreePast n text other = subst (λ (k : ℕ). AgreePast k text other) p.len agree in
      let past : take 2 (chars (drop n other)) ≡ take 2 p.at.next =
      sym here.past ∙ ap (take 2) (ap chars p.pieces.left ∙ p.pieces.again) in
      token-read-in (in-alike p.at.is (chars (drop n other)) past) other (split-same other p.pieces here.below)
      ∙ sym p.at.same

  pub edition_grammar : IsGrammar (first_token_in edition)
  edition_grammar = record {
    not_empty = λ text is some. let p = parts text is some in omega (arith, p.len, length-le-encodes (p.at.c ∷ p.at.w));
    boundary = λ text is some. let p = parts text is some in
        subst (IsCharBoundary text) (sym p.len) (split-boundary is p.pieces);
    local = λ text other is of some agree. same_token text other (parts text is some) agree;
  }

pub first_token_grammar : IsGrammar first_token
first_token_grammar = edition_grammar newest
