-- Lemmas for the loops that list tokens.
use Rattle.std.proofs.Common.{◌≡◌, ℕ, zero, suc, ◌+◌, ◌-◌, ◌<◌, ◌≤◌, ◌^◌, List, [], ◌∷◌, ◌++◌, length, take, drop, refl}
use Rattle.std.proofs.Common.{ap, ◌∙◌, arith, append_assoc, length-drop, length-take-le, subst}
use Rattle.std.proofs.{Math.Nat.{min-le_right}, lemmas.{Grind.{common_steps}, List.{nil_from_length}}}
use Rattle.std.specs.Str.{IsUtf8}
use Rattle.rustc_lexer.specs.{declared.token.Token.{Token}, LexedText.{PieceModel, pieces_from}, LanguageText.{Mode}}
use Rattle.rustc_lexer.specs.{State.{State}, Tokens.{bound, tokens_left, tokens_of}, model.Tokens.{IsFilled}}
use Rattle.rustc_lexer.specs.laws.Tokens.{partitions, tokens-nil}
use Rattle.rustc_lexer.proofs.lemmas.edits.{Bounds.{bound_mono}, FrontAndBack.{bound-take}}
use Rattle.rustc_lexer.proofs.lemmas.edits.ManyTokens.{IsFront, front_of}
use Rattle.lexdump_run.specs.Listing.{line_text, listing_from}

-- A listing consists of the lines of the first `count` tokens, followed by the lines of the remaining tokens.
pub listing-split : (start : ℕ) (tokens : List Token) (count : ℕ)
    → listing_from start tokens ≡ listing_from start (take count tokens) ++ listing_from (start + bound tokens count)
    (drop count tokens)
listing-split start tokens zero = let e : start ≡ start + 0 = omega arith in ap (λ n. listing_from n tokens) e
listing-split start [] (suc count) = refl
listing-split start (t ∷ ts) (suc count) =
    grind (arith, common_steps, append_assoc, listing-split (start + t.len) ts count)

-- In this section, a buffer contains the first `count` tokens of the rest of a text.
module _ (text cut rest : List ℕ) (mode : Mode) (buffer filled : List Token) (count : ℕ) (cut_is : cut ≡ rest)
    (utf8 : IsUtf8 cut) (within : length rest ≤ length text) (fits : length text < 2 ^ 32)
    (fills : IsFilled (λ (t : Token). t) (tokens_of mode rest) buffer filled count) where
  abbrev left : List Token
  left = tokens_of mode rest

  front : IsFront left filled count
  front = front_of left buffer filled count (omega (arith, fills.as_many, min-le_right (length buffer) (length left)))
      fills.tokens

  inside : bound left count ≤ length rest
  inside =
      let all = partitions rest mode record { utf8 = subst IsUtf8 cut_is utf8; fits = omega (arith, within, fits) } in
      omega (arith, all.whole, bound_mono left count (length left) front.few)

  pub buffer_fits : length text - length cut + bound (take count filled) (length (take count filled)) < 2 ^ 32
  buffer_fits = grind (arith, common_steps, length-take-le, bound-take, inside)

  -- The listing of the rest consists of the lines of the buffer, followed by the lines of the tokens after it.
  pub buffer-split : (later : List Token) (after : List ℕ) → later ≡ drop count left
      → after ≡ drop (bound left count) rest
      → listing_from (length text - length rest) left ≡ listing_from (length text - length cut) (take count filled)
      ++ listing_from (length text - length after) later
  buffer-split later after e f =
      let start : length text - length rest ≡ length text - length cut = omega (arith, ap length cut_is) in
      let next : length text - length cut + bound left count ≡ length text - length after =
      omega (arith, ap length cut_is, ap length f, length-drop (bound left count) rest, inside, within) in
      cc (listing-split (length text - length cut) left count, front.front)

-- If no text is left, no token is left.
pub none_left : (s : State) → length s.rest ≡ 0 → tokens_left s ≡ []
none_left s e = ap (tokens_of s.mode) (nil_from_length s.rest e) ∙ tokens-nil s.mode

-- Pieces are listed in order, one line each.
abbrev pub lines : List PieceModel → List ℕ
lines [] = []
lines (p ∷ ps) = line_text p.start p.token ++ lines ps

pub lines-from : (text : List ℕ) (start : ℕ) (tokens : List Token) → lines (pieces_from text start tokens) ≡
    listing_from start tokens
lines-from text start [] = refl
lines-from text start (t ∷ ts) = ap (λ xs. line_text start t ++ xs) (lines-from text (start + t.len) ts)

pub ruleset listing_lemmas = (lines-from)
