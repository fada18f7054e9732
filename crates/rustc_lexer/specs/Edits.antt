-- Edits: the text after an edit, and which tokens the edit keeps.
use Rattle.std.specs.Prelude.{ℕ, ◌+◌, ◌-◌, ◌<◌, ◌≤◌, ◌^◌, List, [], ◌∷◌, ◌++◌, length, take, drop, IsCharBoundary, ◌≡◌}
use Rattle.std.specs.Prelude.{slice_get, IfSome, codes, decimal, count_by}
use Rattle.rustc_lexer.specs.declared.relex.{edit.Edit.Edit, edit_error.EditStop.EditStop, counts.Relexed.Relexed}
use Rattle.rustc_lexer.specs.declared.relex.edit_error.EditStop.TheVariants.{Range, TooLong, Memory}
use Rattle.rustc_lexer.specs.{Token}
use Rattle.rustc_lexer.specs.Locality.{has_two}
use Rattle.rustc_lexer.specs.Partition.{Layout, bound, tokens_by, tokens_in}

-- ---- one edit

-- Returns the text after an edit that replaces the bytes `start..stop` with `insert`.
unfoldable pub apply : List ℕ → ℕ → ℕ → List ℕ → List ℕ
apply text start stop insert = take start text ++ (insert ++ drop stop text)

-- Holds if the range is in bounds and on char boundaries.
pub record IsInside (text : List ℕ) (start stop : ℕ) : Type 0 where
  pub start_le_stop : start ≤ stop
  pub stop_inside : stop ≤ length text
  pub start_boundary : IsCharBoundary text start
  pub stop_boundary : IsCharBoundary text stop

-- Holds if the edit is valid: its range is in bounds and on char boundaries, and the new text is shorter than 4 GiB.
pub record IsEdit (text : List ℕ) (start stop : ℕ) (insert : List ℕ) : Type 0 where
  pub inside : IsInside text start stop
  pub short : length text + length insert < 2 ^ 32 + (stop - start)

-- Returns the end offsets of the tokens, if the first token starts at `from`.
abbrev pub ends_from : ℕ → List Token → List ℕ
ends_from from [] = []
ends_from from (t ∷ ts) = (from + t.len) ∷ ends_from (from + t.len) ts

-- Returns the layout of a fragment that is lexed with a grammar. A fragment has no head.
abbrev pub fragment_by : (List ℕ → Token) → List ℕ → Layout
fragment_by first text = record { start = 0; head = []; body = tokens_by first text }

-- Returns the offset of token boundary k, counting the tokens of the head too.
abbrev pub offset_in : Layout → ℕ → ℕ
offset_in of k = of.start + bound (tokens_in of) k

-- Returns the offset where the body starts.
abbrev pub body_in : Layout → ℕ
body_in of = offset_in of (length of.head)

-- Holds if an edit that starts at `start` keeps the head: the edit starts in the body, and the head is the same before
-- and after the edit.
abbrev pub KeepsHead : Layout → Layout → ℕ → Type 0
KeepsHead old new start = (body_in old ≤ start) × (old.start ≡ new.start) × (old.head ≡ new.head)

-- Holds if new and old tokens meet: boundary `number` of the new tokens matches a boundary of the old tokens, and
-- `back` old tokens follow. Both boundaries are in the body. The new boundary is at or after `new_end`, the end of the
-- inserted text, and as far from it as the old boundary is from `old_end`, the end of the removed text.
pub record IsMeeting (old new : Layout) (old_end new_end number back : ℕ) : Type 0 where
  pub number_inside : number ≤ length (tokens_in new)
  pub past_edit : new_end ≤ offset_in new number
  pub past_head : length new.head ≤ number
  pub old_number : ℕ
  pub past_old_head : length old.head ≤ old_number
  pub back_is : old_number + back ≡ length (tokens_in old)
  pub same_offset : offset_in new number + old_end ≡ offset_in old old_number + new_end

-- Holds if r contains the counts of an edit. If the edit keeps the head, the tokens kept in front are the tokens of the
-- head, and the tokens of the body that end at least two characters before the edit. Otherwise none are kept in front.
-- The tokens after that are new, up to the first boundary where new and old tokens meet. The old tokens after that
-- boundary are kept.
pub record IsRelexedTo (old new : Layout) (text : List ℕ) (start stop new_end : ℕ) (r : Relexed) :
    Type 0 where
  pub kept : KeepsHead old new start
      → r.kept_front ≡ length old.head + count_by (λ end. has_two text end start)
      (ends_from (body_in old) old.body)
  pub changed : (KeepsHead old new start → ⊥) → r.kept_front ≡ 0
  pub meeting : IsMeeting old new stop new_end (r.kept_front + r.lexed) r.kept_back
  pub none_before : (number back : ℕ) → r.kept_front ≤ number → number < r.kept_front + r.lexed
      → IsMeeting old new stop new_end number back → ⊥

-- Holds if r contains the counts of an edit that replaces the bytes `start..stop` with `insert`.
abbrev pub IsRelexed : (List ℕ → Layout) → List ℕ → ℕ → ℕ → List ℕ → Relexed → Type 0
IsRelexed layout text start stop insert =
    IsRelexedTo (layout text) (layout (apply text start stop insert)) text start stop
    (start + length insert)

-- Returns the number of tokens after an edit with these counts.
abbrev pub count_after : Relexed → ℕ
count_after r = r.kept_front + r.lexed + r.kept_back

-- Returns the counts if all n tokens are kept in front.
abbrev pub all_kept : ℕ → Relexed
all_kept n = record { kept_front = n; lexed = 0; kept_back = 0 }

-- Returns the counts if all n tokens are new.
abbrev pub none_kept : ℕ → Relexed
none_kept n = record { kept_front = 0; lexed = n; kept_back = 0 }

-- ---- replacing the whole text

-- Holds if the edit is valid for the old text, and turns it into the new text.
pub record Makes (old new : List ℕ) (start stop : ℕ) (insert : List ℕ) : Type 0 where
  pub valid : IsEdit old start stop insert
  pub made : apply old start stop insert ≡ new

-- Holds if the edit is the narrowest that turns the old text into the new one: of all such edits it starts last, and of
-- the edits with this start it ends first. It is the edit that is left when the common prefix of both texts is
-- stripped, in whole characters, and then their common suffix.
pub record IsNarrowest (old new : List ℕ) (start stop : ℕ) (insert : List ℕ) : Type 0 where
  pub makes : Makes old new start stop insert
  pub begins_last : (from to : ℕ) (other : List ℕ) → Makes old new from to other → from ≤ start
  pub ends_first : (to : ℕ) (other : List ℕ) → Makes old new start to other → stop ≤ to

-- ---- lists of edits

-- Returns the text after one edit.
abbrev pub applied : List ℕ → Edit → List ℕ
applied text e = apply text e.start e.stop e.insert.now

-- Returns the text after all edits, applied in order.
abbrev pub apply_list : List ℕ → List Edit → List ℕ
apply_list text [] = text
apply_list text (e ∷ es) = apply_list (applied text e) es

-- Holds if each edit is valid for the text that the edits before it leave.
abbrev pub AreEdits : List ℕ → List Edit → Type 0
AreEdits text [] = Unit {0}
AreEdits text (e ∷ es) = IsEdit text e.start e.stop e.insert.now × AreEdits (applied text e) es

-- Holds if the step count grew by the number of tokens that the edits lex, one after another. The tokens of a new head
-- do not count.
abbrev pub AreStepped : (List ℕ → Layout) → List ℕ → List Edit → ℕ → ℕ → Type 0
AreStepped layout text [] before after = after ≡ before
AreStepped layout text (e ∷ es) before after =
    (between : ℕ) × ((r : Relexed) × IsRelexed layout text e.start e.stop e.insert.now r
    × (between + (length (layout (applied text e)).head - r.kept_front) ≡ before + r.lexed))
    × AreStepped layout (applied text e) es between after

-- Holds if the list contains the counts of each edit, in order.
abbrev pub AreRelexed : (List ℕ → Layout) → List ℕ → List Edit → List Relexed → Type 0
AreRelexed layout text [] counts = counts ≡ []
AreRelexed layout text (e ∷ es) [] = ⊥
AreRelexed layout text (e ∷ es) (r ∷ rs) =
    IsRelexed layout text e.start e.stop e.insert.now r × AreRelexed layout (applied text e) es rs

-- Holds if n is the maximum of the numbers that satisfy `Holds`.
abbrev pub IsGreatest : (ℕ → Type 0) → ℕ → Type 0
IsGreatest Holds n = Holds n × ((m : ℕ) → Holds m → m ≤ n)

-- Returns the index of the edit that failed.
abbrev pub stop_at : EditStop → ℕ
stop_at (Range at) = at
stop_at (TooLong at) = at
stop_at (Memory at) = at

-- Returns the error message.
abbrev pub stop_text : EditStop → List ℕ
stop_text (Range at) = codes "edit " ++ (decimal at ++ codes ": bad range")
stop_text (TooLong at) = codes "edit " ++ (decimal at ++ codes ": text too long")
stop_text (Memory at) = codes "edit " ++ (decimal at ++ codes ": no memory")

-- Holds if the edit fails on the current text with this error: its range is invalid (`IsInside`); its range is valid,
-- but the new text would be too long; or the edit is valid, and an allocation failed.
abbrev pub IsRefusedOn : EditStop → List ℕ → Edit → Type 0
IsRefusedOn (Range at) text e = IsInside text e.start e.stop → ⊥
IsRefusedOn (TooLong at) text e =
    IsInside text e.start e.stop × (IsEdit text e.start e.stop e.insert.now → ⊥)
IsRefusedOn (Memory at) text e = IsEdit text e.start e.stop e.insert.now

-- Holds if the edit that the error names is in the list, and fails on this text with this error.
abbrev pub IsStop : EditStop → List ℕ → List Edit → Type 0
IsStop s text edits =
    (stop_at s < length edits) × IfSome (slice_get edits (stop_at s)) (IsRefusedOn s text)

-- Holds if the step count grew by the steps of the edits before the failed one. If an allocation failed, it can have
-- grown further, but at most by the steps of the failed edit.
abbrev pub IsStopStepped : EditStop → (List ℕ → Layout) → List ℕ → List Edit → ℕ → ℕ → Type 0
IsStopStepped (Memory at) layout text edits before after =
    (least most : ℕ) × AreStepped layout text (take at edits) before least × (least ≤ after)
    × AreStepped layout text (take (at + 1) edits) before most × (after ≤ most)
IsStopStepped s layout text edits before after =
    AreStepped layout text (take (stop_at s) edits) before after

-- ---- edits that are applied at once, with offsets in the same text

-- Holds if each range is in bounds and on char boundaries, and starts at or after the end of the previous range. The
-- first range starts at or after `from`.
abbrev pub AreInOrder : List ℕ → ℕ → List Edit → Type 0
AreInOrder text from [] = Unit {0}
AreInOrder text from (e ∷ es) =
    (from ≤ e.start) × IsInside text e.start e.stop × AreInOrder text e.stop es

-- Returns the start of the first edit.
abbrev pub start_of_first : List Edit → ℕ
start_of_first [] = 0
start_of_first (e ∷ es) = e.start

-- Returns the end of the last edit.
abbrev pub stop_of_last : ℕ → List Edit → ℕ
stop_of_last from [] = from
stop_of_last from (e ∷ es) = stop_of_last e.stop es

-- Returns the replacement for the text from `from` up to the end of the last edit: the unchanged text between the edits
-- and the inserted texts, in order.
abbrev pub batch_insert : List ℕ → ℕ → List Edit → List ℕ
batch_insert text from [] = []
batch_insert text from (e ∷ es) =
    take (e.start - from) (drop from text) ++ (e.insert.now ++ batch_insert text e.stop es)

-- Holds if the edits can be applied at once: they are in order, and the single edit that is equivalent to them is
-- valid.
abbrev pub IsBatch : List ℕ → List Edit → Type 0
IsBatch text edits =
    AreInOrder text 0 edits × IsEdit text (start_of_first edits) (stop_of_last 0 edits)
    (batch_insert text (start_of_first edits) edits)

-- Holds if none of the edits is applied because of this error. The error names the first edit that is not in order, or
-- otherwise the last edit, if the new text would be too long or an allocation failed.
abbrev pub IsBatchStop : EditStop → List ℕ → List Edit → Type 0
IsBatchStop (Range at) text edits =
    (at < length edits) × AreInOrder text 0 (take at edits)
    × (AreInOrder text 0 (take (at + 1) edits) → ⊥)
IsBatchStop (TooLong at) text edits =
    (at + 1 ≡ length edits) × AreInOrder text 0 edits × (IsBatch text edits → ⊥)
IsBatchStop (Memory at) text edits = (at + 1 ≡ length edits) × IsBatch text edits
