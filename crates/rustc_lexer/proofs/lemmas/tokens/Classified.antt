-- The ends of runs that an iterator has found after its offset, and the tokens that they determine.
use Rattle.std.proofs.lemmas.Grind.{common_steps}
use Rattle.std.proofs.Common.{◌≡◌, ℕ, ◌+◌, ◌-◌, ◌<◌, List, length, drop, take, arith}
use Rattle.std.specs.Str.{IsUtf8}
use Rattle.std.proofs.lemmas.List.{take_rest}
use Rattle.rustc_lexer.specs.{Edition, FrontmatterAllowed, Token, No, LanguageText.{mode_in}}
use Rattle.rustc_lexer.specs.{declared.entry.ahead.Ahead.{Ahead}, State.{State}, Tokens.{TakesToken}}
use Rattle.rustc_lexer.specs.{laws.State.{state}, model.Edition.{first_token_in}}
use Rattle.rustc_lexer.specs.model.Ends.{AreEndsPast, IsEnds, IsUnclassified, KnowsAhead, TakesClassified}
use Rattle.rustc_lexer.proofs.lemmas.tokens.Tokens.{takes_part}

-- The ends are known directly after a search at this offset.
pub found_at : (text : List ℕ) (at m : ℕ) → IsEnds (drop at text) m → AreEndsPast (drop at text) (at - at) m
found_at text at m are = grind (arith, common_steps)

-- The remaining text is a slice of the bytes.
pub left_is : (text bytes : List ℕ) (at : ℕ) → bytes ≡ text → take (length bytes - at) (drop at bytes) ≡ drop at text
left_is text bytes at e = rw e (take_rest text at)

-- The iterator returns the token that the ends determine.
module _ (allowed : FrontmatterAllowed) (edition : Edition) (text : List ℕ) (s : State) (old new : Ahead)
    (view : state 0 (drop old.at text) (mode_in allowed edition) ≡ s) where
  pub takes_classified : KnowsAhead allowed text old → (token : Token) → TakesClassified text old new token
      → TakesToken s token (state 0 (drop new.at text) (mode_in allowed edition))
  takes_classified known token says =
      takes_part allowed edition text old.at s (known.part token.kind says.classified) view new.at token
      record { utf8 = says.utf8; fits = known.tells.fits } known.tells.bound says.some (says.first edition) says.offset

  -- If they determine no token, the remaining text is unchanged.
  module _ (says : IsUnclassified text old new) where
    pub still : state 0 (drop new.at text) (mode_in allowed edition) ≡ s
    still = rw says.at view

    pub takes_left : (bytes left : List ℕ) (past : ℕ) (token : Token) → IsUtf8 bytes → bytes ≡ text
        → left ≡ drop new.at text → new.at < length text
        → allowed ≡ No → token ≡ first_token_in edition left → past ≡ new.at + token.len
        → TakesToken s token (state 0 (drop past text) (mode_in allowed edition))
    takes_left bytes left past token is same e some never first o =
        takes_part allowed edition text new.at s never still past token record
        { utf8 = rw same at is; fits = says.tells.fits } says.tells.bound some (rw e at first) o

pub ruleset classified_lemmas = (takes_classified, still)
