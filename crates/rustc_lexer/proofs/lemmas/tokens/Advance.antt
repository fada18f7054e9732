-- A cursor reads the tokens of its iterator, longer by the bytes that are pending.
use Rattle.std.proofs.lemmas.Grind.{common_steps}
use Rattle.std.proofs.Common.{◌≡◌, ◌≢◌, ℕ, ◌+◌, ◌<◌, ◌≤◌, ◌^◌, ◌==◌, List, [], length, length-drop, drop, false, refl}
use Rattle.std.proofs.Common.{sym, ap, ◌∙◌, arith}
use Rattle.std.specs.{Str.{IsCharBoundary}}
use Rattle.std.proofs.lemmas.{Bool.{ne_eqb}, List.Elements.{All-head}, Str.{IsUtf8-drop}}
use Rattle.rustc_lexer.specs.{FrontmatterAllowed, Token, TokenKind, Eof, LanguageText.{Mode, mode_in, newest}}
use Rattle.rustc_lexer.specs.State.{State, kind_past, token_past, HasSuffixWithin}
use Rattle.rustc_lexer.specs.{model.Taking.{IsCursor, token_at, take_next}, Classes.{IsText}}
use Rattle.rustc_lexer.specs.Tokens.{tokens_left, tokens_of, HasSuffix, TakesFirst, TakesToken}
use Rattle.rustc_lexer.specs.laws.State.{state, past_token, edition-after, advance-end, advance-some, token_past-zero}
use Rattle.rustc_lexer.proofs.lemmas.tokens.KindsOfTexts.{suffixes, token_at-not_end}
use Rattle.rustc_lexer.specs.laws.Tokens.{tokens-cons}

-- Pending bytes do not turn a token into the end of the text.
kind_past-end : (pending : ℕ) (kind : TokenKind) → kind_past pending kind ≡ Eof → kind ≡ Eof
kind_past-end pending kind w2 = grind (arith, common_steps)

-- Holds if the cursor reads this token, and is not at the end of the text.
pub record Advances (s t : State) (token : Token) : Type 0 where
  pub token_is : token ≡ (take_next s).0
  pub state_is : t ≡ (take_next s).1
  pub no_end : token.kind ≢ Eof
  pub first : TakesFirst s token t

-- A text without tokens is empty.
nothing_left : (mode : Mode) (text : List ℕ) → IsText text → tokens_of mode text ≡ [] → text ≡ []
nothing_left mode text w2 w3 = grind (arith, common_steps, tokens-cons)

module _ (pending : ℕ) (tokens : State) (is : IsCursor pending tokens) (s : State)
    (view : state pending tokens.rest tokens.mode ≡ s) where
  -- A cursor is still valid after a part of its text, with at most as many bytes pending.
  pub passed : (rest : List ℕ) → rest ≡ s.rest → (len left : ℕ) → IsCharBoundary rest len → left ≤ pending + len
      → (t : State) → t ≡ record tokens { rest = drop len tokens.rest } → IsCursor left t
  passed rest offset len left boundary few t e = grind (arith, common_steps, length-drop, IsUtf8-drop)

  -- At the end of the text the cursor returns `Eof`.
  pub ends : tokens_left tokens ≡ [] → take_next s ≡ (record { kind = Eof; len = 0 }, s)
  ends none = advance-end pending tokens.rest tokens.mode s view
      (rw (nothing_left tokens.mode tokens.rest is.text none) refl)

  pub none_left : tokens_left tokens ≡ [] → (tokens_left s ≡ []) × (s.rest ≡ [])
  none_left none =
      rw (← view) (none, nothing_left tokens.mode tokens.rest is.text none)

  -- The iterator's token, and the cursor's.
  module _ (taken : Token) (t : State) (takes : TakesToken tokens taken t) where
    abbrev first : Token
    first = token_at tokens.mode tokens.rest

    abbrev old : State
    old = state pending tokens.rest tokens.mode

    abbrev new : State
    new = state 0 t.rest t.mode

    some : 0 < length tokens.rest
    some = omega (arith, takes.not_empty, takes.boundary.0)

    more : (length tokens.rest == 0) ≡ false
    more = ne_eqb (length tokens.rest) 0 (λ none. omega (arith, some, none))

    alone_is : ◌≡◌ {A = Token × State} (taken, t)
        (token_past tokens.pending first, past_token tokens.rest tokens.mode first)
    alone_is = sym takes.advances ∙ advance-some tokens.pending tokens.rest tokens.mode tokens refl more

    taken_is : taken ≡ first
    taken_is = rw (is.alone, token_past-zero first) at (ap (λ (r : Token × State). r.0) alone_is)

    next_is : t ≡ past_token tokens.rest tokens.mode first
    next_is = ap (λ (r : Token × State). r.1) alone_is

    whole : take_next old ≡ (token_past pending first, past_token tokens.rest tokens.mode first)
    whole = advance-some pending tokens.rest tokens.mode old refl more

    token_is : token_past pending taken ≡ (take_next old).0
    token_is = rw (whole, taken_is) refl

    state_is : new ≡ (take_next old).1
    state_is = rw (whole, next_is) refl

    no_end : (token_past pending taken).kind ≢ Eof
    no_end h = token_at-not_end tokens.mode tokens.rest is.text some
        (rw (← taken_is) (kind_past-end pending taken.kind h))

    takes_alone : TakesToken (state 0 tokens.rest tokens.mode) taken new
    takes_alone = grind (arith, common_steps, next_is)

    pub advances : Advances s new (token_past pending taken)
    advances = grind (arith, common_steps, token_is, state_is, no_end, takes_alone)

    pub advances_alone : pending ≡ 0 → Advances s (state pending t.rest t.mode) taken
    advances_alone none = grind (arith, common_steps, whole, token_past-zero, advances)

    pub suffix_within : HasSuffixWithin taken
    suffix_within =
        (All-head HasSuffix taken (tokens_left t) (rw takes.first at (suffixes tokens.rest tokens.mode is.text))).0

    pub whole_fits : pending + taken.len < 2 ^ 32
    whole_fits = omega (arith, is.fits, takes.boundary.0)

    pub still_cursor : (left : ℕ) → left ≤ pending → IsCursor left t
    still_cursor left few = grind (arith, common_steps, length-drop, next_is, edition-after, IsUtf8-drop)

-- A new cursor is at the start of the text.
pub at_start : (allowed : FrontmatterAllowed) (text : List ℕ) → IsText text → (s : State)
    → s ≡ state 0 text (mode_in allowed newest) → IsCursor 0 s
at_start allowed text is s e = grind (arith, common_steps)
