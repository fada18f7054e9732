-- Re-lexing for a caller that stores the tokens and passes only their lengths, and the head of a document.
use Rattle.std.specs.Prelude.{ℕ, zero, suc, ◌≡◌, ◌↔◌, ◌+◌, ◌<◌, ◌≤◌, ◌^◌, ◌||◌, max, count_by, Bool, true, false}
use Rattle.std.specs.Prelude.{IsTrue, nat_eq, List, [], ◌∷◌, ◌++◌, length, map, take, drop, IsCharBoundary, IsUtf8}
use Rattle.std.specs.Prelude.{Option, Some, None}
use Rattle.rustc_lexer.specs.declared.{head.Head.Head}
use Rattle.rustc_lexer.specs.declared.relex.{change.Change.Change, counts.Relexed.Relexed}
use Rattle.rustc_lexer.specs.declared.relex.{relexer.RelexState.RelexState}
use Rattle.rustc_lexer.specs.{Token, Whitespace}
use Rattle.rustc_lexer.specs.Classes.{IsText}
use Rattle.rustc_lexer.specs.Document.{body_start, head_tokens, tokens_start, document_by}
use Rattle.rustc_lexer.specs.Offsets.{IsBound}
use Rattle.rustc_lexer.specs.Edits.{IsEdit, IsInside, IsMeeting, IsRelexed, KeepsHead, apply, ends_from, fragment_by}
use Rattle.rustc_lexer.specs.Locality.{has_two}
use Rattle.rustc_lexer.specs.Partition.{bound, tokens_by}

-- Holds if the change can have resulted in the text: the inserted range is in bounds and on char boundaries, and the
-- old offsets are in order and below 2 ^ 32.
pub record IsChange (text : List ℕ) (change : Change) : Type 0 where
  pub inserted : IsInside text change.start change.new_end
  pub start_le_old : change.start ≤ change.old_end
  pub old_short : change.old_end < 2 ^ 32

-- Holds if the edit is valid for the text `before`, and turns it into `text` by inserting `insert`.
pub record IsEditOf (before : List ℕ) (edit : Change) (insert text : List ℕ) : Type 0 where
  pub is_text : IsText before
  pub inserted : IsUtf8 insert
  pub is_edit : IsEdit before edit.start edit.old_end insert
  pub made : text ≡ apply before edit.start edit.old_end insert
  pub new_end : edit.new_end ≡ edit.start + length insert

-- Holds if the edit turns the text `before` into `text`, and `lengths` are the lengths of the tokens of `before`.
pub record IsMadeOf (first : List ℕ → Token) (before lengths : List ℕ) (edit : Change)
    (insert text : List ℕ) : Type 0 where
  pub edit_of : IsEditOf before edit insert text
  pub lengths_are : lengths ≡ map (λ (t : Token). t.len) (tokens_by first before)

-- The model of a `Relexer` consists of the text after an edit, the lengths of the tokens before the edit, the edit, and
-- the progress.
pub record RelexerModel : Type 0 where
  pub text : List ℕ
  pub lengths : List ℕ
  pub change : Change
  pub at : RelexState

-- Returns the number of new tokens that are known: the tokens kept in front, and the lexed tokens.
abbrev pub known : RelexState → ℕ
known at = at.front.index + at.lexed

-- Holds if re-lexing can continue with this progress.
pub record CanContinue (text : List ℕ) (count : ℕ) (at : RelexState) : Type 0 where
  pub boundary : IsCharBoundary text at.at
  pub number : at.back.index ≤ count
  pub order : at.front.index ≤ at.back.index
  pub small : at.back.offset < 2 ^ 63
  pub few : at.lexed ≤ at.at

-- Whether re-lexing is done: it has met the old tokens, or no text is left.
abbrev pub is_done : List ℕ → RelexState → Bool
is_done text at = at.met || nat_eq at.at (length text)

-- Holds if `count` calls of `next` lead from `at` to `at'`, provided that re-lexing is not done before any of them. The
-- calls lex the first `count` tokens of the text that is left. Before `past`, the end of the edit, they do not advance
-- in the old tokens, and do not meet them.
pub record TakesSteps (first : List ℕ → Token) (text : List ℕ) (past : ℕ) (at : RelexState)
    (count : ℕ) (at' : RelexState) : Type 0 where
  pub inside : count ≤ length (tokens_by first (drop at.at text))
  pub none : count ≡ 0 → at' ≡ at
  pub front : at'.front ≡ at.front
  pub lexed : at'.lexed ≡ at.lexed + count
  pub offset : at'.at ≡ at.at + bound (tokens_by first (drop at.at text)) count
  pub same_back : at'.at < past → at'.back ≡ at.back
  pub not_met : 0 < count → at'.at < past → at'.met ≡ false

-- This is the invariant of re-lexing, for the tokens of the old text. Callers need not read it: `begin` establishes it,
-- `next` and `fill` preserve it, and `counts` is exact if it holds.
--
-- Re-lexing went from the end of the tokens kept in front to a boundary of the new tokens, and met no old boundary on
-- the way. `met` is true exactly if it meets an old boundary here. `back` is the first boundary of the old tokens that
-- is at or after this boundary in offsets of the old text, or the last boundary. Before the end of the change, `back`
-- is the end of the tokens kept in front.
pub record IsUnderWay (first : List ℕ → Token) (old : List ℕ) (change : Change) (text : List ℕ)
    (at : RelexState) : Type 0 where
  pub front : at.front.index
      ≡ count_by (λ end. has_two old end change.start) (ends_from 0 (tokens_by first old))
  pub front_bound : IsBound (tokens_by first old) at.front
  pub inside : known at ≤ length (tokens_by first text)
  pub offset : at.at ≡ bound (tokens_by first text) (known at)
  pub none_before : (number back : ℕ) → at.front.index ≤ number → number < known at
      → IsMeeting (fragment_by first old) (fragment_by first text) change.old_end change.new_end number
      back → ⊥
  pub met : (at.met ≡ true)
      ↔ ((back : ℕ) × IsMeeting (fragment_by first old) (fragment_by first text) change.old_end
      change.new_end (known at) back)
  pub back_bound : IsBound (tokens_by first old) at.back
  pub not_begun : at.at < change.new_end → at.back ≡ at.front
  pub passed : (k : ℕ) → k < at.back.index → bound (tokens_by first old) k + change.new_end
      < max change.new_end at.at + change.old_end
  pub reached : change.new_end ≤ at.at → at.back.index < length (tokens_by first old)
      → at.at + change.old_end ≤ at.back.offset + change.new_end

-- Holds if `r` re-lexes the text that an edit of `before` resulted in: the edit inserted `insert`, the old tokens are the
-- tokens of `before`, and the invariant holds.
pub record IsRelexOf (first : List ℕ → Token) (before insert : List ℕ) (r : RelexerModel) : Type 0 where
  pub made_of : IsMadeOf first before r.lengths r.change insert r.text
  pub under_way : IsUnderWay first before r.change r.text r.at

-- Holds if re-lexing goes on from `old` to `new` and lexes `count` tokens. If the old tokens are the tokens of an old
-- text, these are the next tokens of the current text.
pub record Advances (first : List ℕ → Token) (old : RelexerModel) (count : ℕ) (new : RelexerModel) : Type 0
  where
    pub same_text : new.text ≡ old.text
    pub same_lengths : new.lengths ≡ old.lengths
    pub same_change : new.change ≡ old.change
    pub steps : TakesSteps first old.text old.change.new_end old.at count new.at
    pub left : drop count (tokens_by first (drop old.at.at old.text))
        ≡ tokens_by first (drop new.at.at old.text)
    pub ahead : old.at.at + count ≤ new.at.at
    pub inside : 0 < count → new.at.at ≤ length old.text
    pub goes_on : (before insert : List ℕ) → IsRelexOf first before insert old
        → IsRelexOf first before insert new
        × (tokens_by first (drop old.at.at old.text) ≡ drop (known old.at) (tokens_by first old.text))

-- Holds if re-lexing goes on from `old` to `new`, and writes the `count` tokens that it lexes to the start of the buffer.
pub record Fills {X : Type 0} (written : Token → X) (first : List ℕ → Token) (old : RelexerModel)
    (buffer : List X) (count : ℕ) (new : RelexerModel) (filled : List X) : Type 0 where
  pub advances : Advances first old count new
  pub within : count ≤ length buffer
  pub tokens : filled
      ≡ map written (take count (tokens_by first (drop old.at.at old.text))) ++ drop count buffer

-- Holds if the tokens kept in front, the lexed tokens, and the old tokens after the boundary where both met are
-- together the new tokens.
abbrev pub IsWhole : List Token → List Token → RelexState → Type 0
IsWhole old new at =
    take at.front.index old
    ++ (take at.lexed (drop at.front.index new) ++ drop at.back.index old) ≡ new

-- ---- the head of a document, and how an edit of the document changes its body

-- Returns the tokens of a frontmatter after `space` bytes of whitespace, or no tokens if there is no frontmatter.
abbrev pub front_tokens : ℕ → Option Token → List Token
front_tokens space None = []
front_tokens zero (Some front) = front ∷ []
front_tokens (suc n) (Some front) = record { kind = Whitespace; len = suc n } ∷ front ∷ []

-- Returns the tokens of a head.
abbrev pub tokens_of_head : Head → List Token
tokens_of_head head = front_tokens head.space_len head.frontmatter

-- Holds if `head` is the head of the text.
pub record IsHeadOf (text : List ℕ) (head : Head) : Type 0 where
  pub shebang_is : head.tokens_start ≡ tokens_start text
  pub tokens_are : tokens_of_head head ≡ head_tokens text
  pub bare : head.frontmatter ≡ None → head.space_len ≡ 0
  pub end_is : head.body ≡ body_start text

-- Holds if `change` is the change of the body, which started at `from` and now starts at `to`. If the edit keeps the
-- head, the change is the edit itself, in offsets of the body. Otherwise it extends from the start of the body to the
-- first position at or after the end of the edit where both bodies have started.
abbrev pub IsInBody : Bool → ℕ → ℕ → Change → Change → Type 0
IsInBody true from to edit change =
    (edit.start ≡ from + change.start) × (edit.old_end ≡ from + change.old_end)
    × (edit.new_end ≡ from + change.new_end)
IsInBody false from to edit change =
    (more : ℕ) × (change.start ≡ 0) × (edit.old_end + more ≡ from + change.old_end)
    × (edit.new_end + more ≡ to + change.new_end)
    × ((n : ℕ) → from ≤ edit.old_end + n → to ≤ edit.new_end + n → more ≤ n)

-- Holds if `change` is the change from the old body to the current body. `kept` is true exactly if the edit keeps the
-- head. The counts of the document follow from the counts of the body: the tokens of an unchanged head are kept in
-- front, and the tokens of a new head are lexed.
pub record IsBodyChange (first : List ℕ → Token) (before : List ℕ) (edit : Change)
    (insert text : List ℕ) (kept : Bool) (change : Change) : Type 0 where
  pub keeps : IsTrue kept ↔ KeepsHead (document_by first before) (document_by first text) edit.start
  pub put : List ℕ
  pub made_of :
      let body : List ℕ = drop (body_start before) before in
      IsMadeOf first body (map (λ (t : Token). t.len) (tokens_by first body)) change put
      (drop (body_start text) text)
  pub counts_kept : kept ≡ true → (r : Relexed)
      → IsRelexed (fragment_by first) (drop (body_start before) before) change.start change.old_end put
      r
      → IsRelexed (document_by first) before edit.start edit.old_end insert (record {
        kept_front = length (head_tokens before) + r.kept_front;
        lexed = r.lexed;
        kept_back = r.kept_back;
      })
  pub counts_new : kept ≡ false → (r : Relexed)
      → IsRelexed (fragment_by first) (drop (body_start before) before) change.start change.old_end put
      r
      → IsRelexed (document_by first) before edit.start edit.old_end insert (record {
        kept_front = r.kept_front;
        lexed = length (head_tokens text) + r.lexed;
        kept_back = r.kept_back;
      })
