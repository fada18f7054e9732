-- Model of the steps of re-lexing.
use Rattle.std.specs.Prelude.{ℕ, ◌+◌, ◌-◌, ◌<◌, ◌≤◌, Bool, count_by, max, map, IsCharBoundary, ◌≡◌, ◌↔◌, true, false, List}
use Rattle.std.specs.Prelude.{length, take, drop}
use Rattle.std.specs.Str.{IsUtf8}
use Rattle.rustc_lexer.specs.declared.relex.boundary.TokenStart.{TokenStart}
use Rattle.rustc_lexer.specs.declared.relex.change.Change.{Change}
use Rattle.rustc_lexer.specs.declared.relex.relexer.RelexState.{RelexState}
use Rattle.rustc_lexer.specs.{Token}
use Rattle.rustc_lexer.specs.Partition.{bound, tokens_by}
use Rattle.rustc_lexer.specs.Offsets.{IsBound}
use Rattle.rustc_lexer.specs.Edits.{ends_from}
use Rattle.rustc_lexer.specs.Relexer.{IsMadeOf, IsUnderWay, RelexerModel}
use Rattle.rustc_lexer.specs.Locality.{has_two}

-- ---- tokens that an edit of a text without a head keeps

-- Returns the number of tokens that end at least two characters before `to`.
abbrev pub kept_front : List ℕ → List Token → ℕ → ℕ
kept_front text tokens to = count_by (λ end. has_two text end to) (ends_from 0 tokens)

-- ---- re-lexing

-- Holds if each boundary of the tokens is a char boundary of the text.
abbrev pub AreBoundaries : List ℕ → List Token → Type 0
AreBoundaries text tokens = (k : ℕ) → k ≤ length tokens → IsCharBoundary text (bound tokens k)

-- Holds if these are the lengths of the tokens.
abbrev pub HasLengths : List Token → List ℕ → Type 0
HasLengths tokens lengths = lengths ≡ map (λ (t : Token). t.len) tokens

-- Holds if the old and the new text are the same up to `start`, and the token boundaries of the old text are char
-- boundaries.
pub record IsFront (old : List ℕ) (tokens : List Token) (lengths text : List ℕ) (start : ℕ) : Type 0
  where
    pub utf8 : IsUtf8 old
    pub cuts : AreBoundaries old tokens
    pub lengths_are : HasLengths tokens lengths
    pub same : take start text ≡ take start old

-- Holds if the last boundary of the tokens, and no other boundary, is at this offset.
abbrev pub IsLast : List Token → ℕ → Type 0
IsLast tokens offset =
    (bound tokens (length tokens) ≡ offset)
    × ((k : ℕ) → k < length tokens → bound tokens k < offset)

-- Holds if the old tokens were followed to boundary `back` for an offset of the new text. `met` is true exactly if this
-- offset meets the old tokens there.
pub record IsFollowed (old : List Token) (old_end new_end offset : ℕ) (back : TokenStart) (met : Bool)
    : Type 0 where
  pub bound_is : IsBound old back
  pub passed : (k : ℕ) → k < back.index → bound old k + new_end < max new_end offset + old_end
  pub reached : new_end ≤ offset → back.index < length old
      → offset + old_end ≤ back.offset + new_end
  pub met_is : (met ≡ true) ↔ ((new_end ≤ offset) × (offset + old_end ≡ back.offset + new_end))

-- Holds if re-lexing has met the old tokens, and these are the tokens that it lexed.
pub record IsLexed (first : List ℕ → Token) (old : List ℕ) (change : Change) (text : List ℕ)
    (tokens : List Token) (at : RelexState) : Type 0 where
  pub under_way : IsUnderWay first old change text at
  pub met : at.met ≡ true
  pub lexed : at.lexed ≡ length tokens
  pub tokens_are : tokens ≡ take at.lexed (drop at.front.index (tokens_by first text))

-- Holds if `P` holds for each text that has the old tokens and that the edit turned into this text, provided that
-- `near` is a boundary of these tokens.
abbrev pub ForEachOldText : (List ℕ → Token) → List ℕ → List Token → Change → TokenStart
    → (List ℕ → List ℕ → Type 0) → Type 0
ForEachOldText first text old_tokens change near P =
    (before insert : List ℕ)
    → IsMadeOf first before (map (λ (t : Token). t.len) old_tokens) change insert text
    → IsBound (tokens_by first before) near
    → P before insert

-- Holds if the new tokens cannot meet, before `end`, an old boundary that was not followed yet.
abbrev pub IsClear : RelexerModel → ℕ → Type 0
IsClear r end =
    (offset : ℕ) → r.at.at < offset → offset < end → r.change.new_end ≤ offset
    → (r.change.new_end ≤ r.at.at)
    × (offset + r.change.old_end < r.at.back.offset + r.change.new_end)

-- Holds if the next `count` tokens have `bytes` bytes and start before `end`, and cannot meet the old tokens between
-- each other.
pub record IsNext (first : List ℕ → Token) (r : RelexerModel) (count bytes end : ℕ) : Type 0 where
  pub some : 0 < count
  pub few : count ≤ length (tokens_by first (drop r.at.at r.text))
  pub bytes_are : bytes ≡ bound (tokens_by first (drop r.at.at r.text)) count
  pub begun : (k : ℕ) → k < count → bound (tokens_by first (drop r.at.at r.text)) k < end - r.at.at
  pub not_met : r.at.met ≡ false
  pub clear : IsClear r end

-- ---- common prefix and suffix of two texts

-- Holds if both texts start with the same n bytes.
pub record IsCommonPrefix (old new : List ℕ) (n : ℕ) : Type 0 where
  pub in_old : n ≤ length old
  pub in_new : n ≤ length new
  pub same : take n old ≡ take n new

-- Holds if both texts end with the same n bytes, which are after `start`.
pub record IsCommonSuffix (old new : List ℕ) (start n : ℕ) : Type 0 where
  pub in_old : start + n ≤ length old
  pub in_new : start + n ≤ length new
  pub same : drop (length old - n) old ≡ drop (length new - n) new
