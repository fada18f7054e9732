-- Texts that are joined without changing their tokens, and the separators that keep the tokens apart.
use Rattle.std.specs.Prelude.{ℕ, ◌≡◌, ◌↔◌, ◌+◌, ◌≤◌, ◌^◌, List, [], ◌∷◌, ◌++◌, length, take, drop, codes, chars, Bool}
use Rattle.std.specs.Prelude.{true, false, not}
use Rattle.std.specs.Str.{IsCharBoundary}
use Rattle.rustc_lexer.specs.{Edition, Token, TokenKind, Literal, BlockComment, LineComment, Whitespace}
use Rattle.rustc_lexer.specs.declared.relex.joined.JoinError.{JoinError}
use Rattle.rustc_lexer.specs.declared.relex.joined.JoinError.TheVariants.{Inseparable, TooLong, Memory}
use Rattle.rustc_lexer.specs.Answers.{tokens_of}
use Rattle.rustc_lexer.specs.Classes.{AreAll, Chars, IsText, NextIs, NextIsNot, Utf8, is_inline, is_whitespace}
use Rattle.rustc_lexer.specs.LanguageText.{part}
use Rattle.rustc_lexer.specs.Locality.{has_two}
use Rattle.rustc_lexer.specs.Partition.{bound}
use Rattle.rustc_lexer.specs.Tokens.{is_faulty}

-- Holds if the texts can touch: if one directly follows the other, they lex to the tokens of the first and then the
-- tokens of the second.
abbrev pub MayTouch : Edition → Utf8 → Utf8 → Type 0
MayTouch edition left right =
    tokens_of (part edition) (left ++ right)
    ≡ tokens_of (part edition) left ++ tokens_of (part edition) right

-- Holds if the separator keeps the texts apart: all three together lex to the tokens of the first, of the separator and
-- of the second.
abbrev pub IsSeparated : Edition → Utf8 → Utf8 → Utf8 → Type 0
IsSeparated edition left separator right =
    tokens_of (part edition) (left ++ (separator ++ right))
    ≡ tokens_of (part edition) left
    ++ (tokens_of (part edition) separator ++ tokens_of (part edition) right)

-- Holds if each suffix of the first text that starts at a token boundary and has at least two characters decides
-- whether the texts can touch.
abbrev pub TailDecides : Edition → Utf8 → Utf8 → Type 0
TailDecides edition left right = (k : ℕ) → k ≤ length (tokens_of (part edition) left)
    → has_two left (bound (tokens_of (part edition) left) k) (length left) ≡ true
    → MayTouch edition left right
    ↔ MayTouch edition (drop (bound (tokens_of (part edition) left) k) left) right

-- Holds if this is the text after a piece was appended. The piece directly follows the text if the two can touch.
-- Otherwise it comes after a space, if that keeps the two apart, and otherwise after a newline, if that keeps them
-- apart.
pub data IsJoined (edition : Edition) (left right : Utf8) : Utf8 → Type 0 where
  touching : MayTouch edition left right → IsJoined edition left right (left ++ right)
  spaced : (MayTouch edition left right → ⊥)
      → IsSeparated edition left (codes " ") right
      → IsJoined edition left right (left ++ (codes " " ++ right))
  on_a_line : (MayTouch edition left right → ⊥)
      → (IsSeparated edition left (codes " ") right → ⊥)
      → IsSeparated edition left (codes "\n") right
      → IsJoined edition left right (left ++ (codes "\n" ++ right))

-- Holds if appending the piece changes the tokens in all three cases: directly, after a space and after a newline.
pub record AreInseparable (edition : Edition) (left right : Utf8) : Type 0 where
  pub touching : MayTouch edition left right → ⊥
  pub spaced : IsSeparated edition left (codes " ") right → ⊥
  pub on_a_line : IsSeparated edition left (codes "\n") right → ⊥

-- Whether a token is malformed: a malformed literal (`is_faulty`), or an unterminated block comment.
abbrev pub is_malformed : TokenKind → Bool
is_malformed (Literal kind suffix_start) = is_faulty kind
is_malformed (BlockComment style terminated) = not terminated
is_malformed kind = false

-- Holds if none of the tokens is malformed.
abbrev pub AreWellFormed : List Token → Type 0
AreWellFormed [] = Unit {0}
AreWellFormed (token ∷ tokens) = (is_malformed token.kind ≡ false) × AreWellFormed tokens

-- Whether this whitespace character, directly after a token of this kind, is part of the token.
abbrev pub takes_in : TokenKind → ℕ → Bool
takes_in Whitespace c = true
takes_in (LineComment style) c = is_inline c
takes_in kind c = false

-- Whether this whitespace character, directly after the last token of the list, is part of that token.
abbrev pub last_takes_in : List Token → ℕ → Bool
last_takes_in [] c = false
last_takes_in (token ∷ []) c = takes_in token.kind c
last_takes_in (token ∷ next ∷ tokens) c = last_takes_in (next ∷ tokens) c

-- Holds if whitespace separates tokens.
pub record WhiteSpaceSeparates (edition : Edition) : Type 0 where
  -- A text without malformed tokens keeps its tokens before whitespace that does not become part of its last token.
  pub keeps : (text after : Utf8) → IsText text → IsText (text ++ after)
      → AreWellFormed (tokens_of (part edition) text)
      → NextIs is_whitespace (chars after)
      → NextIsNot (last_takes_in (tokens_of (part edition) text)) (chars after)
      → MayTouch edition text after
  -- Whitespace keeps its token before a text that does not start with whitespace.
  pub begins : (space text : Utf8) → IsText space → IsText (space ++ text)
      → AreAll is_whitespace (chars space)
      → NextIsNot is_whitespace (chars text)
      → MayTouch edition space text

-- Holds if the piece starts with whitespace that would become part of the last token.
pub record RunsOn (tokens : List Token) (piece : Chars) : Type 0 where
  pub space : NextIs is_whitespace piece
  pub taken : NextIs (last_takes_in tokens) piece

-- A joined text consists of the text made of all pieces, and the edition that they are lexed in.
pub record Joined : Type 0 where
  pub edition : Edition
  pub text : Utf8

-- Holds if the text can be cut at `len`: this is a char boundary, and the texts before and after it can touch.
abbrev pub MayEnd : Joined → ℕ → Type 0
MayEnd held len = IsCharBoundary held.text len
    × MayTouch held.edition (take len held.text) (drop len held.text)

-- Returns the text up to `len`, in the same edition.
abbrev pub cut_to : Joined → ℕ → Joined
cut_to held len = record { edition = held.edition; text = take len held.text }

-- Holds if a piece can be rejected with this error: no separator keeps the tokens apart, the text might reach 4 GiB
-- with a separator, or an allocation failed.
abbrev pub IsRefused : Joined → Utf8 → JoinError → Type 0
IsRefused held piece Inseparable = AreInseparable held.edition held.text piece
IsRefused held piece TooLong = 2 ^ 32 ≤ length held.text + (length piece + 1)
IsRefused held piece Memory = Unit {0}

-- Returns the error message.
abbrev pub error_text : JoinError → List ℕ
error_text Inseparable = codes "no separator keeps the tokens of the text and the piece"
error_text TooLong = codes "the text might have more than u32::MAX bytes"
error_text Memory = codes "memory allocation failed"
