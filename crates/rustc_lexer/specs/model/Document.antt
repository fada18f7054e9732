-- Model of the head of a document, and of the tokens that an edit of the document keeps.
use Rattle.std.specs.Prelude.{ℕ, ◌+◌, ◌-◌, ◌≤◌, ◌≡◌, if◌then◌else◌, List, length, take, drop, max, None, Result, Ok}
use Rattle.std.specs.Prelude.{Err, Bool, true, false, IsCharBoundary}
use Rattle.rustc_lexer.specs.declared.relex.checkpoints.Checkpoints.{Checkpoints}
use Rattle.rustc_lexer.specs.declared.head.Head.{Head}
use Rattle.rustc_lexer.specs.declared.relex.{change.Change.Change, counts.Relexed.Relexed}
use Rattle.rustc_lexer.specs.{Token}
use Rattle.rustc_lexer.specs.Classes.{IsText}
pub use Rattle.rustc_lexer.specs.Relexer.{front_tokens, tokens_of_head}
use Rattle.rustc_lexer.specs.Relexer.{IsEditOf}
use Rattle.rustc_lexer.specs.Edits.{IsRelexed, apply}
use Rattle.rustc_lexer.specs.Partition.{Layout, bound, tokens_by, tokens_in}
use Rattle.rustc_lexer.specs.model.Checkpoints.{AreBounds}
use Rattle.rustc_lexer.specs.model.Pieces.{AreBoundariesFrom}

-- Returns the layout of a text with this head, lexed with a grammar.
abbrev pub by_head : Head → (List ℕ → Token) → List ℕ → Layout
by_head head first text =
    record {
      start = head.tokens_start;
      head = tokens_of_head head;
      body = tokens_by first (drop head.body text);
    }

-- Holds if this is the head of the text, where `layout` returns the layout of a text that is lexed with a grammar.
pub record IsHeadIn (layout : (List ℕ → Token) → List ℕ → Layout) (text : List ℕ) (head : Head) :
    Type 0 where
  pub layout_is : (first : List ℕ → Token) → layout first text ≡ by_head head first text
  pub bare : head.frontmatter ≡ None → head.space_len ≡ 0
  pub ends : head.body
      ≡ head.tokens_start + bound (tokens_of_head head) (length (tokens_of_head head))
  pub cuts : AreBoundariesFrom text head.tokens_start (tokens_of_head head)

-- Holds if these are the tokens of the text, its head, and boundaries of the tokens of its body.
abbrev pub AreKeptOf : ((List ℕ → Token) → List ℕ → Layout) → (List ℕ → Token) → List ℕ → List Token
    → Head → Checkpoints → Type 0
AreKeptOf layout first text tokens head checkpoints =
    IsText text × (tokens ≡ tokens_in (layout first text)) × IsHeadIn layout text head
    × IsCharBoundary text head.body
    × AreBounds (drop (length (tokens_of_head head)) tokens) checkpoints

-- Returns the offsets of an edit.
abbrev pub edit_change : ℕ → ℕ → List ℕ → Change
edit_change start stop insert =
    record { start = start; old_end = stop; new_end = start + length insert }

-- Holds if a valid edit turned the text `before` into `made`, but the tokens, the head and the checkpoints still belong
-- to `before`.
pub record IsPut (layout : (List ℕ → Token) → List ℕ → Layout) (first : List ℕ → Token) (before insert : List ℕ)
    (edit : Change)
    (made : List ℕ) (tokens : List Token) (head : Head) (checkpoints : Checkpoints) : Type 0 where
  pub kept : AreKeptOf layout first before tokens head checkpoints
  pub edit_of : IsEditOf before edit insert made

-- Returns the text after an edit: the new text, or the restored old text if the edit was rejected.
abbrev pub text_left : {R E : Type 0} → Result R E → List ℕ → List ℕ → List ℕ
text_left (Ok r) made before = made
text_left (Err e) made before = before

-- Returns the change of the body, in offsets of the body, which started at `from` and now starts at `to`. If the edit
-- keeps the head, the change is the edit itself. Otherwise it extends from the start of the body to the first position
-- at or after the end of the edit where both bodies have started.
abbrev pub body_change : Bool → ℕ → ℕ → Change → Change
body_change true from to edit =
    record {
      start = edit.start - from;
      old_end = edit.old_end - from;
      new_end = edit.new_end - from;
    }
body_change false from to edit =
    let more : ℕ = max (from - edit.old_end) (to - edit.new_end) in
    record {
      start = 0;
      old_end = edit.old_end + more - from;
      new_end = edit.new_end + more - to;
    }

-- Returns the counts of a document, given the counts of its body and the number of tokens in its old and its new head.
abbrev pub counted : Bool → ℕ → ℕ → Relexed → Relexed
counted true old new r =
    record { kept_front = old + r.kept_front; lexed = r.lexed; kept_back = r.kept_back }
counted false old new r =
    record { kept_front = r.kept_front; lexed = new + r.lexed; kept_back = r.kept_back }

-- Returns the text that an edit inserts into the body.
abbrev pub body_insert : Bool → Change → List ℕ → List ℕ → List ℕ
body_insert kept change insert body = if kept then insert else take change.new_end body

-- Holds if the number of steps from `before` to `after` is at most the number of steps of the edit.
abbrev pub TakesFew : (List ℕ → Layout) → List ℕ → ℕ → ℕ → List ℕ → ℕ → ℕ → Type 0
TakesFew layout text start stop insert before after =
    (r : Relexed) × IsRelexed layout text start stop insert r
    × (after + (length (layout (apply text start stop insert)).head - r.kept_front)
    ≤ before + r.lexed)
