-- How far the tokens of a text are final.
use Rattle.std.proofs.Common.{◌≡◌, ℕ, zero, suc, ◌+◌, ◌<◌, ◌≤◌, true, false, List, [], ◌∷◌, ◌++◌, length, take}
use Rattle.std.proofs.Common.{drop, refl, sym, ap, ◌∙◌, arith, take_at, length-append, IsCharBoundary}
use Rattle.std.proofs.lemmas.Str.{IsCharBoundary-from_drop, IsCharBoundary-end, IsUtf8-between}
use Rattle.std.proofs.{Math.Seq.{take-length}, lemmas.Grind.{common_steps}}
use Rattle.rustc_lexer.specs.{declared.relex.boundary.TokenStart.{TokenStart}, Token, Offsets.{IsBound}}
use Rattle.rustc_lexer.specs.{Tokens.{bound, tokens_by}, Locality.{has_two, AreLocal, IsSettled, StaysUpTo, IsGrammar}}
use Rattle.rustc_lexer.specs.{Classes.{IsText}, model.Relexer.{kept_front}}
use Rattle.rustc_lexer.proofs.lemmas.edits.{Bounds.{bound_mono, cuts, rises}, KeptFront.{kept_is, kept_tells}}
use Rattle.rustc_lexer.specs.laws.Cuts.{at_bound, tokens_local}
use Rattle.rustc_lexer.proofs.lemmas.edits.FrontAndBack.{has_two-agree, has_two-mono}
use Rattle.rustc_lexer.proofs.lemmas.tokens.Progress.{IsLexedTo, lexed_more}

-- Holds if the offset is a token boundary, and two characters follow it unless it is the first boundary.
pub record IsSureTo (first : List ℕ → Token) (text : List ℕ) (offset : ℕ) : Type 0 where
  pub items : List Token
  pub to : IsLexedTo first text items offset
  pub two : 0 < length items → has_two text offset (length text) ≡ true

module _ {first : List ℕ → Token} (law : IsGrammar first) (text : List ℕ) (is : IsText text) where
  pub sure_next : (offset next : ℕ) (token : Token) → IsSureTo first text offset → offset < length text
      → token ≡ first (drop offset text) → next ≡ offset + token.len → has_two text next (length text) ≡ true
      → IsSureTo first text next
  sure_next offset next token at more token_is next_is two =
      grind (arith, common_steps, lexed_more law text at.items offset is at.to more, token_is, next_is)

  boundary : (k : ℕ) → (bound (tokens_by first text) k ≤ length text)
      × IsCharBoundary text (bound (tokens_by first text) k)
  boundary k = let cut = at_bound law k text is in
      (cut.inside, IsCharBoundary-from_drop text _ cut.inside cut.past.utf8)

  -- The text is final up to the last boundary that two characters follow.
  pub settled_at : (at : TokenStart) → at.index ≡ kept_front text (tokens_by first text) (length text)
      → IsBound (tokens_by first text) at
      → (0 < at.index → has_two text at.offset (length text) ≡ true) → IsSettled text (tokens_by first text) at.offset
  settled_at at count here two = record {
    at_bound = (at.index, here.0, sym here.1);
    two = λ some. two (positive at.index here.1 some);
    last = λ k few has.
        let kept = (kept_tells text (tokens_by first text) (length text) is.utf8 (cuts law text is) k few).0
        (λ some. has) in
        omega (arith, here.1, bound_mono (tokens_by first text) k at.index (omega (arith, count, kept)));
  }
    where
      positive : (n : ℕ) → at.offset ≡ bound (tokens_by first text) n → 0 < at.offset → 0 < n
      positive zero e some = absurd (omega arith)
      positive (suc n) e some = omega arith

  -- The search stops at the right offset: no text is left, or fewer than two characters follow the next boundary.
  pub sure_stop : (offset : ℕ) → IsSureTo first text offset
      → (offset < length text → has_two text (offset + (first (drop offset text)).len) (length text) ≡ false)
      → IsSettled text (tokens_by first text) offset
  sure_stop offset at out = settled_at (record { index = length at.items; offset = offset })
      (kept_is text (tokens_by first text) (length text) is.utf8 (cuts law text is) (length at.items) at.to.number
      (rw (sym at.to.offset_is) at.two) next)
      (at.to.number, at.to.offset_is) at.two
    where
      next : length at.items < length (tokens_by first text)
          → has_two text (bound (tokens_by first text) (length at.items + 1)) (length text) ≡ false
      next few =
          let inside = (boundary (suc (length at.items))).0 in
          let more : offset < length text = omega (arith, at.to.offset_is, rises law text is (length at.items) few) in
          let past = (lexed_more law text at.items offset is at.to more).offset_is in
          rw (sym (past ∙ ap (bound (tokens_by first text)) (length-append at.items (first (drop offset text) ∷ []))))
          (out more)

  pub next_boundary : (offset : ℕ) (token : Token) → IsSureTo first text offset → offset < length text
      → token ≡ first (drop offset text) → (offset + token.len ≤ length text) × IsCharBoundary text (offset + token.len)
  next_boundary offset token at more token_is =
      rw (token_is, (lexed_more law text at.items offset is at.to more).offset_is) (boundary _)

  -- Whatever is appended, the tokens before a boundary that two characters follow do not change.
  pub stays_at : (more : List ℕ) (k : ℕ) → IsText (text ++ more) → k ≤ length (tokens_by first text)
      → has_two text (bound (tokens_by first text) k) (length text) ≡ true
      → take k (tokens_by first (text ++ more)) ≡ take k (tokens_by first text)
  stays_at more k its few two =
      let middle = IsUtf8-between text _ _ is.utf8 (boundary k).0 (boundary k).1 (IsCharBoundary-end text) in
      tokens_local law k text (text ++ more) is its few
      (has_two-agree text (text ++ more) _ _ middle (take_at text more _ refl ∙ sym (take-length text)) two)

  pub stays : (offset : ℕ) → IsSettled text (tokens_by first text) offset → StaysUpTo offset text (tokens_by first)
  stays offset settled more zero its few le = refl
  stays offset settled more (suc k) its few le =
      let b : ℕ = bound (tokens_by first text) (suc k) in
      let positive : 0 < b =
      omega (arith, rises law text is 0 (omega arith), bound_mono (tokens_by first text) 1 (suc k) (omega arith)) in
      let at_offset = rw settled.at_bound.2 at (boundary settled.at_bound.0).1 in
      stays_at more (suc k) its few
      (has_two-mono text b offset (length text) is.utf8 le (boundary (suc k)).1 at_offset
      (settled.two (omega arith)))

pub local : {first : List ℕ → Token} (law : IsGrammar first) → AreLocal (tokens_by first)
local law text other k is its few agree = tokens_local law k text other is its few agree
