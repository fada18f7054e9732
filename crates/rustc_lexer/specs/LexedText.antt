-- Lexed texts: the effect of edits on a text and its tokens, and the pieces of the text.
use Rattle.std.specs.Prelude.{ℕ, ◌+◌, ◌-◌, ◌<◌, ◌≤◌, ◌^◌, List, [], ◌∷◌, ◌++◌, length, take, drop, ◌≡◌, Option, Some}
use Rattle.std.specs.Prelude.{None, Bool, true, false, Result, Ok, Err, IfOk, IfErr, OnOk, OnErr, All}
use Rattle.rustc_lexer.specs.declared.relex.{edit.Edit.Edit, edit_error.EditStop.EditStop, edit_error.EditSequenceError.EditSequenceError}
use Rattle.rustc_lexer.specs.declared.relex.{pieces.Piece.Piece, counts.Relexed.Relexed}
use Rattle.rustc_lexer.specs.{Edition, Token}
use Rattle.rustc_lexer.specs.Document.{document_tokens, tokens_start, document_by}
use Rattle.rustc_lexer.specs.Edits.{AreEdits, AreStepped, AreRelexed, IsGreatest, IsRelexed, IsStop, IsStopStepped}
use Rattle.rustc_lexer.specs.Edits.{apply, apply_list, fragment_by, stop_at}
use Rattle.rustc_lexer.specs.LanguageText.{part}
use Rattle.rustc_lexer.specs.Partition.{Layout, tokens_in}
use Rattle.rustc_lexer.specs.Tokens.{tokens_of}

-- ---- a whole document (true), or a fragment of one (false)

-- Returns the offset of the first token.
abbrev pub start_in : Bool → List ℕ → ℕ
start_in true = tokens_start
start_in false = λ text. 0

-- Returns the layout of a text that is lexed with a grammar.
abbrev pub layout_in : Bool → (List ℕ → Token) → List ℕ → Layout
layout_in true = document_by
layout_in false = fragment_by

-- Returns the tokens of a text in an edition.
abbrev pub edition_tokens_in : Bool → Edition → List ℕ → List Token
edition_tokens_in true = document_tokens
edition_tokens_in false = λ edition text. tokens_of (part edition) text

-- ---- edits

-- A lexed text consists of a text, its tokens and a stepper.
pub record LexedModel (S : Type 0) : Type 0 where
  pub text : List ℕ
  pub tokens : List Token
  pub stepper : S

-- Holds if the counts add up to the number of new tokens, and match both lists: the first `kept_front` tokens are the
-- same, and so are the last `kept_back` tokens.
pub record AreKept (old new : List Token) (r : Relexed) : Type 0 where
  pub all : r.kept_front + r.lexed + r.kept_back ≡ length new
  pub front : take r.kept_front new ≡ take r.kept_front old
  pub back : drop (r.kept_front + r.lexed) new ≡ drop (length old - r.kept_back) old

-- Holds if an edit has this result and turns the lexed text `old` into `new`. `layout` returns the layout of a text,
-- lexed with the grammar of the stepper.
pub record IsEdited {S E : Type 0} (layout : List ℕ → Layout) (old : LexedModel S) (start stop : ℕ)
    (insert : List ℕ) (result : Result Relexed E) (new : LexedModel S) : Type 0 where
  pub text : OnOk result (new.text ≡ apply old.text start stop insert)
  pub from_scratch : new.tokens ≡ tokens_in (layout new.text)
  -- The result counts the kept tokens and the lexed tokens.
  pub relexed : IfOk result (IsRelexed layout old.text start stop insert)
  pub kept : IfOk result (AreKept old.tokens new.tokens)
  -- On error, nothing has changed.
  pub same_text : OnErr result (new.text ≡ old.text)
  pub same_tokens : OnErr result (new.tokens ≡ old.tokens)

-- Holds if an edit of the text with this result changes the stepper's step count from `before` to `after`.
pub record HasStepCount {E : Type 0} (layout : List ℕ → Layout) (text : List ℕ) (start stop : ℕ)
    (insert : List ℕ) (result : Result Relexed E) (before after : ℕ) : Type 0 where
  -- The stepper runs one step for each lexed token, except for the tokens of a new head.
  pub count : IfOk result
      (λ r. after + (length (layout (apply text start stop insert)).head - r.kept_front)
      ≡ before + r.lexed)
  pub rose : before ≤ after
  -- On error, the stepper has run at most the steps of the whole edit.
  pub few : OnErr result
      ((r : Relexed) × IsRelexed layout text start stop insert r
      × (after + (length (layout (apply text start stop insert)).head - r.kept_front)
      ≤ before + r.lexed))

-- Holds if a list of edits has this result and turns the lexed text `old` into `new`. If an edit is rejected, the edits
-- before it have been applied.
pub record AreApplied {S T : Type 0} (layout : List ℕ → Layout) (old : LexedModel S) (edits : List Edit)
    (result : Result T EditStop) (new : LexedModel S) : Type 0 where
  pub accepted : OnOk result (AreEdits old.text edits)
  pub text : OnOk result (new.text ≡ apply_list old.text edits)
  pub from_scratch : new.tokens ≡ tokens_in (layout new.text)
  pub stop : IfErr result (λ e. IsStop e new.text edits)
  pub stop_accepted : IfErr result (λ e. AreEdits old.text (take (stop_at e) edits))
  pub stop_text : IfErr result (λ e. new.text ≡ apply_list old.text (take (stop_at e) edits))

-- Holds if a list of edits of the text with this result changes the stepper's step count from `before` to `after`.
pub record HaveStepCounts {T : Type 0} (layout : List ℕ → Layout) (text : List ℕ) (edits : List Edit)
    (result : Result T EditStop) (before after : ℕ) : Type 0 where
  pub count : OnOk result (AreStepped layout text edits before after)
  pub stop_count : IfErr result (λ e. IsStopStepped e layout text edits before after)

-- Returns the result of a list of edits, with only the reason of an error.
abbrev pub reason : Result Relexed EditSequenceError → Result Relexed EditStop
reason (Ok r) = Ok r
reason (Err stopped) = Err stopped.stop

-- Holds if r counts the tokens that all edits keep. In front, these are as many tokens as every edit keeps. At the
-- back, they are also as many as every edit keeps, but they do not overlap the tokens in front, in the old or the new
-- list.
pub record AreKeptThrough {S : Type 0} (layout : List ℕ → Layout) (old : LexedModel S)
    (edits : List Edit) (new : LexedModel S) (r : Relexed) : Type 0 where
  -- The list contains the counts of each edit, in order.
  pub each : List Relexed
  pub each_is : AreRelexed layout old.text edits each
  pub most_front : IsGreatest
      (λ n. (n ≤ length old.tokens) × All (λ (c : Relexed). n ≤ c.kept_front) each) r.kept_front
  pub most_back : IsGreatest
      (λ n. (r.kept_front + n ≤ length old.tokens) × (r.kept_front + n ≤ length new.tokens)
      × All (λ (c : Relexed). n ≤ c.kept_back) each) r.kept_back
  pub kept : AreKept old.tokens new.tokens r

-- ---- pieces

-- A piece consists of a token, its offset and its text.
pub record PieceModel : Type 0 where
  pub start : ℕ
  pub token : Token
  pub text : List ℕ

abbrev pub piece_model : Piece → PieceModel
piece_model piece = record { start = piece.start; token = piece.token; text = piece.text.now }

-- Returns the pieces of the tokens, if the first token starts at `start`.
abbrev pub pieces_from : List ℕ → ℕ → List Token → List PieceModel
pieces_from text start [] = []
pieces_from text start (token ∷ tokens) =
    record { start = start; token = token; text = take token.len (drop start text) }
    ∷ pieces_from text (start + token.len) tokens

-- Holds if `next` returns this result and leaves the pieces t. If no piece is left, it returns None and changes
-- nothing. Otherwise it removes and returns the first piece, whose text is as long as its token and whose end is below
-- 2 ^ 32.
abbrev pub YieldsPiece : List PieceModel → Option Piece → List PieceModel → Type 0
YieldsPiece s None t = (s ≡ []) × (t ≡ s)
YieldsPiece s (Some piece) t =
    (s ≡ piece_model piece ∷ t) × (length piece.text.now ≡ piece.token.len)
    × (piece.start + piece.token.len < 2 ^ 32)

-- Holds if `next_back` returns this result and leaves the pieces t. It removes and returns the last piece; apart from
-- that it is like `next`.
abbrev pub YieldsPieceBack : List PieceModel → Option Piece → List PieceModel → Type 0
YieldsPieceBack s None t = (s ≡ []) × (t ≡ s)
YieldsPieceBack s (Some piece) t =
    (s ≡ t ++ piece_model piece ∷ []) × (length piece.text.now ≡ piece.token.len)
    × (piece.start + piece.token.len < 2 ^ 32)
