-- The tokens of a text, and the calls that return them.
use Rattle.std.specs.Prelude.{ℕ, ◌≡◌, ◌↔◌, ◌<◌, ◌≤◌, List, [], ◌∷◌, length, take, drop, chars, codes, IsCharBoundary}
use Rattle.std.specs.Prelude.{Option, is_some, IsSome, Some, None, Ok, zero, suc, Bool, true, false, not, ◌++◌, map}
use Rattle.std.specs.Prelude.{All}
use Rattle.rustc_lexer.specs.{Edition, FrontmatterAllowed, LiteralKind, Token, TokenKind, Char, Byte, Str, ByteStr}
use Rattle.rustc_lexer.specs.{CStr, RawStr, RawByteStr, RawCStr, Literal, Eof, Ident, RawIdent}
pub use Rattle.rustc_lexer.specs.Answers.{advance, raw_check, tokens_of}
use Rattle.rustc_lexer.specs.Classes.{is_ident}
use Rattle.rustc_lexer.specs.LanguageCalls.{StartsRaw}
use Rattle.rustc_lexer.specs.LanguageText.{part, mode_in, mode_after}
pub use Rattle.rustc_lexer.specs.Partition.{cut_by, tokens_by, bound, Partitions}
use Rattle.rustc_lexer.specs.State.{State, token_past, HasSuffixWithin}

-- Returns the tokens that an iterator, or a cursor with nothing pending, has not returned yet.
abbrev pub tokens_left : State → List Token
tokens_left s = tokens_of s.mode s.rest

-- Holds if lexing a fragment again from any of its token boundaries yields the rest of its tokens.
abbrev pub RestartsAtBounds : Edition → List ℕ → Type 0
RestartsAtBounds edition text =
    let tokens : List Token = tokens_of (part edition) text in
    (k : ℕ) → k ≤ length tokens
    → tokens_of (part edition) (drop (bound tokens k) text) ≡ drop k tokens

-- Holds if, with nothing pending, the token is the first that is left, and `advance` returns it with the state t. The
-- token is not empty, ends on a char boundary and is removed from the text.
pub record TakesToken (s : State) (token : Token) (t : State) : Type 0 where
  pub first : tokens_left s ≡ token ∷ tokens_left t
  pub advances : advance s ≡ (token, t)
  pub not_empty : 0 < token.len
  pub boundary : IsCharBoundary s.rest token.len
  pub rest : t.rest ≡ drop token.len s.rest
  pub mode : t.mode ≡ mode_after s.mode token.kind

-- Holds if `next` returns this result and leaves the state t. If no token is left, `next` returns None and changes
-- nothing. Otherwise it returns and removes the first token.
abbrev pub YieldsToken : State → Option Token → State → Type 0
YieldsToken s None t = (tokens_left s ≡ []) × (t ≡ s)
YieldsToken s (Some token) t = TakesToken s token t

-- Holds if a cursor with text left returns this token and leaves the state t. The token is `taken`, which the cursor
-- would return with nothing pending, with the pending bytes added in front. After the call, nothing is pending.
pub record TakesFirst (s : State) (token : Token) (t : State) : Type 0 where
  pub taken : Token
  pub takes : TakesToken (record s { pending = 0 }) taken t
  pub with_pending : token ≡ token_past s.pending taken
  pub none_pending : t.pending ≡ 0

-- Holds if the text can be passed to the raw string check, and the check accepts it exactly if `n_hashes` is Some.
abbrev pub IsChecked : ℕ → List ℕ → Option ℕ → Type 0
IsChecked prefix text n_hashes =
    StartsRaw text prefix × ((raw_check text prefix ≡ Ok tt) ↔ IsSome n_hashes)

-- Holds if the text of a token of this kind has the properties that are guaranteed in addition to the grammar. The text
-- of an identifier passes `is_ident`, and so does the text of a raw identifier after its `r#`. The text of a raw string
-- can be checked. The text of `Eof` is empty.
abbrev pub HasText : TokenKind → List ℕ → Type 0
HasText Ident text = is_ident (chars text) ≡ true
HasText RawIdent text =
    (word : List ℕ) × (text ≡ codes "r#" ++ word) × (is_ident (chars word) ≡ true)
HasText (Literal (RawStr n_hashes) suffix_start) text = IsChecked 1 text n_hashes
HasText (Literal (RawByteStr n_hashes) suffix_start) text = IsChecked 2 text n_hashes
HasText (Literal (RawCStr n_hashes) suffix_start) text = IsChecked 2 text n_hashes
HasText Eof text = length text ≡ 0
HasText kind text = Unit {0}

-- Holds if the text of each token has the properties that are guaranteed for its kind.
abbrev pub HaveTexts : List ℕ → List Token → Type 0
HaveTexts text [] = Unit {0}
HaveTexts text (token ∷ tokens) =
    HasText token.kind (take token.len text) × HaveTexts (drop token.len text) tokens

-- Whether a literal is malformed: an unterminated quoted literal, or a raw string whose n_hashes is None.
abbrev pub is_faulty : LiteralKind → Bool
is_faulty (Char terminated) = not terminated
is_faulty (Byte terminated) = not terminated
is_faulty (Str terminated) = not terminated
is_faulty (ByteStr terminated) = not terminated
is_faulty (CStr terminated) = not terminated
is_faulty (RawStr n_hashes) = not (is_some n_hashes)
is_faulty (RawByteStr n_hashes) = not (is_some n_hashes)
is_faulty (RawCStr n_hashes) = not (is_some n_hashes)
is_faulty kind = false

-- Holds if a malformed literal has no suffix: its suffix_start is its end.
abbrev pub EndsFaulty : TokenKind → ℕ → Type 0
EndsFaulty (Literal kind suffix_start) len = is_faulty kind ≡ true → suffix_start ≡ len
EndsFaulty kind len = Unit {0}

-- Holds if the offset of a token's suffix has the guaranteed properties: it is at most the length of the token, and
-- equal to it for a malformed literal.
abbrev pub HasSuffix : Token → Type 0
HasSuffix token = HasSuffixWithin token × EndsFaulty token.kind token.len

-- Holds if `at` is an iterator at the start of the text, which it lexes as source or as a fragment in an edition. The
-- iterator's tokens are the tokens of the text and partition it. A fragment can be lexed again from each token
-- boundary. The suffix and the text of each token have the properties that are guaranteed for its kind.
pub record ReadsAs (allowed : FrontmatterAllowed) (edition : Edition) (text : List ℕ) (at : State) :
    Type 0 where
  pub state : at ≡ record { pending = 0; rest = text; mode = mode_in allowed edition }
  pub partitions : Partitions text (tokens_of (mode_in allowed edition) text)
  pub restarts : RestartsAtBounds edition text
  pub suffixes : All HasSuffix (tokens_of (mode_in allowed edition) text)
  pub texts : HaveTexts text (tokens_of (mode_in allowed edition) text)

-- Holds if the start of the buffer contains the first `count` tokens that are left, each converted by `written`, and
-- the rest of the buffer is unchanged. These tokens start before the offset `end`. If the buffer has room for another
-- token, the next token boundary is at or after `end`.
pub record IsFilledTo {X : Type 0} (written : Token → X) (end : ℕ) (left : List Token)
    (buffer filled : List X) (count : ℕ) : Type 0 where
  pub few : count ≤ length left
  pub within : count ≤ length buffer
  pub tokens : filled ≡ map written (take count left) ++ drop count buffer
  pub begun : (k : ℕ) → k < count → bound left k < end
  pub all : count < length buffer → end ≤ bound left count

-- Returns the state after `count` tokens.
abbrev pub state_past : ℕ → State → State
state_past zero s = s
state_past (suc count) s = (advance (state_past count s)).1
