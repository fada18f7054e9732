-- The token of a text with a known first character.
use Rattle.std.proofs.lemmas.Grind.{common_steps}
use Rattle.std.proofs.Common.{◌≡◌, ℕ, ◌+◌, ◌-◌, ◌≤◌, [], ◌∷◌, List, length, sym, ap, arith, subst}
use Rattle.std.specs.Str.{chars, IsUtf8, IsCharBoundary}
use Rattle.std.proofs.lemmas.Str.{IsCharBoundary-from_drop}
use Rattle.rustc_lexer.specs.{Token, TokenKind, Eof, model.Lexeme.{past_first, first_token}}
use Rattle.rustc_lexer.specs.{model.{Quick.{IsFirstToken}, Scan.{bytes_of, past, scanned}}, State.{HasSuffixWithin}}
use Rattle.rustc_lexer.specs.laws.Past.{past-past, past-drop, IsUtf8-past, length-past}
use Rattle.rustc_lexer.proofs.lemmas.tokens.Kinds.{first_token-suffix}

-- The token, from the result of reading the text after the first character.
module _ (text tail rest : List ℕ) (c : ℕ) (kind : TokenKind) (is : IsUtf8 text) (cs : chars text ≡ c ∷ chars tail)
    (e : tail ≡ past 1 text) (f : (kind, rest) ≡ scanned (past_first c) tail) where
  abbrev taken : ℕ
  taken = (past_first c (chars tail)).1

  left : rest ≡ past (1 + taken) text
  left = cc (ap (λ (r : TokenKind × List ℕ). r.1) f, past-past taken 1 text is)

  bytes : bytes_of (1 + taken) (chars text) + length rest ≡ length text
  bytes = rw left (length-past (1 + taken) text is)

  pub left-le : length rest ≤ length text
  left-le = omega (arith, bytes)

  boundary : IsCharBoundary text (length text - length rest)
  boundary =
      let cut : bytes_of (1 + taken) (chars text) ≡ length text - length rest = omega (arith, bytes) in
      IsCharBoundary-from_drop text _ (omega arith)
      (rw (past-drop (1 + taken) text is, cut) at (IsUtf8-past (1 + taken) text is))

  token-is : record { kind = kind; len = length text - length rest } ≡ first_token text
  unfolding first_token
  token-is = grind (arith, common_steps, bytes)

  pub made : IsFirstToken text record { kind = kind; len = length text - length rest }
  made = record {
    token = token-is;
    inside = omega (arith, left-le);
    boundary = boundary;
    suffix = subst (λ (t : Token). HasSuffixWithin t) (sym token-is) (first_token-suffix text);
  }

pub token-at_end : (text : List ℕ) → chars text ≡ [] → record { kind = Eof; len = 0 } ≡ first_token text
unfolding first_token
token-at_end text e = rw e
