-- Reading the tokens of a whole text, one at a time.
use Rattle.std.proofs.Common.{◌≡◌, ℕ, ◌+◌, ◌<◌, ◌≤◌, List, [], length, length-drop, drop, drop-drop, arith, refl}
use Rattle.std.proofs.Common.{sym, Some, IsCharBoundary}
use Rattle.std.specs.{Prelude.{⊤}, Iterator.{at_most, MakesProgress}}
use Rattle.std.proofs.lemmas.{Bool.{ne_eqb}, Str.{IsCharBoundary-from_take, IsUtf8-drop}, List.{drop_all}}
use Rattle.std.proofs.lemmas.Grind.{common_steps}
use Rattle.rustc_lexer.specs.{Edition, FrontmatterAllowed, Token, No}
use Rattle.rustc_lexer.specs.Tokens.{tokens_left, RestartsAtBounds, TakesToken}
use Rattle.rustc_lexer.specs.laws.Tokens.{token_at-cuts, tokens-cons, tokens-nil}
use Rattle.rustc_lexer.specs.{LanguageText.{Mode, mode_after, mode_in}, laws.Edition.{edition_grammar}}
use Rattle.rustc_lexer.specs.{model.Edition.{first_token_in}, State.{State}, model.Taking.{token_at}}
use Rattle.rustc_lexer.specs.laws.Cuts.{at_bound}
use Rattle.rustc_lexer.specs.laws.State.{state, past_token, past_token-is, advance-some, token_past-zero}
use Rattle.rustc_lexer.specs.Classes.{IsText}

pub restarts : (edition : Edition) (text : List ℕ) → IsText text → RestartsAtBounds edition text
restarts edition text is k few = sym (at_bound (edition_grammar edition) k text is).rest

-- Reading a token removes it from the remaining tokens.
pub takes_first : (s t : State) (token : Token) → s.pending ≡ 0 → IsText s.rest → 0 < length s.rest
    → token ≡ token_at s.mode s.rest
    → t ≡ past_token s.rest s.mode token → TakesToken s token t
takes_first s t token none is some e f =
    grind (
      arith,
      common_steps,
      some,
      advance-some s.pending s.rest s.mode s refl (ne_eqb (length s.rest) 0 (λ zero. omega (arith, some, zero))),
      none,
      token_past-zero (token_at s.mode s.rest),
      f,
      e,
      token_at-cuts s.mode s.rest is some,
      tokens-cons,
      IsCharBoundary-from_take,
    )

-- The same for the rest of a text from an offset on.
module _ (mode : Mode) (text : List ℕ) (at : ℕ) (s : State) (view : state 0 (drop at text) mode ≡ s) where
  pub none_left : length text ≤ at → tokens_left s ≡ []
  none_left all = rw (← view, drop_all at text all) (tokens-nil mode)

  pub takes_next : (past : ℕ) (next : Mode) (token : Token) → IsText text → IsCharBoundary text at → at < length text
      → token ≡ token_at mode (drop at text) → past ≡ at + token.len → next ≡ mode_after mode token.kind
      → TakesToken s token (state 0 (drop past text) next)
  takes_next past next token is bound some e o m =
      let cut : drop past text ≡ drop token.len (drop at text) = cc (drop-drop token.len at text) in
      rw (← view) (takes_first (state 0 (drop at text) mode) (state 0 (drop past text) next) token refl
      record { utf8 = IsUtf8-drop text at is.utf8 bound; fits = omega (arith, length-drop at text, is.fits) }
      (omega (arith, length-drop at text)) e (past_token-is (drop at text) (drop past text) mode next token cut m))

-- Reading a token of a fragment does not change the mode of the iterator.
pub takes_part : (allowed : FrontmatterAllowed) (edition : Edition) (text : List ℕ) (at : ℕ) (s : State) → allowed ≡ No
    → state 0 (drop at text) (mode_in allowed edition) ≡ s → (past : ℕ) (token : Token) → IsText text
    → IsCharBoundary text at → at < length text
    → token ≡ first_token_in edition (drop at text) → past ≡ at + token.len
    → TakesToken s token (state 0 (drop past text) (mode_in allowed edition))
takes_part allowed edition text at s never view past token is bound some e o =
    takes_next _ text at s view past (mode_in allowed edition) token is bound some (rw never e) o (rw never refl)

-- An iterator that read a token is closer to its end.
pub goes : (s t : State) (token : Token) → TakesToken s token t
    → MakesProgress (λ (x : State). ⊤) (λ s. at_most (length s.rest)) s (Some token) t
goes s t token takes = grind (arith, common_steps, length-drop)
