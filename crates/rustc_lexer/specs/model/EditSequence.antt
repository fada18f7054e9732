-- Model of a list of edits that were applied up to some index.
use Rattle.std.specs.Prelude.{ℕ, ◌≡◌, ◌-◌, ◌≤◌, List, [], ◌∷◌, length, take, drop, min}
use Rattle.rustc_lexer.specs.declared.relex.edit.Edit.{Edit}
use Rattle.rustc_lexer.specs.declared.relex.lexed.edit_sequence.AppliedCounts.{AppliedCounts}
use Rattle.rustc_lexer.specs.declared.relex.counts.Relexed.{Relexed}
use Rattle.rustc_lexer.specs.{Token}
use Rattle.rustc_lexer.specs.Edits.{AreEdits, IsRelexed, applied, apply_list}
use Rattle.rustc_lexer.specs.LexedText.{LexedModel}
use Rattle.rustc_lexer.specs.Partition.{Layout, tokens_in}

-- Holds if `front` is the minimum of `front_before` and the counts that each edit keeps in front, and `back` is the
-- minimum of `back_before` and the counts that each edit keeps at the back.
abbrev pub AreLeast : (List ℕ → Layout) → List ℕ → List Edit → ℕ → ℕ → ℕ → ℕ → Type 0
AreLeast layout text [] front_before back_before front back =
    (front ≡ front_before) × (back ≡ back_before)
AreLeast layout text (e ∷ es) front_before back_before front back =
    (r : Relexed) × IsRelexed layout text e.start e.stop e.insert.now r × AreLeast layout
    (applied text e) es (min front_before r.kept_front) (min back_before r.kept_back) front back

-- Holds if the first `front` tokens of both lists are the same, and so are the last `back` tokens.
pub record StayAtEnds (old new : List Token) (front back : ℕ) : Type 0 where
  pub front_inside : front ≤ length old
  pub front_within : front ≤ length new
  pub same_front : take front new ≡ take front old
  pub back_inside : back ≤ length old
  pub back_within : back ≤ length new
  pub same_back : drop (length new - back) new ≡ drop (length old - back) old

-- Holds if the first `made.count` edits of a list turn the lexed text `old` into `new`.
pub record AreMadeTo {S : Type 0} (layout : List ℕ → Layout) (old : LexedModel S) (edits : List Edit)
    (made : AppliedCounts) (new : LexedModel S) : Type 0 where
  pub few : made.count ≤ length edits
  pub accepted : AreEdits old.text (take made.count edits)
  pub text : new.text ≡ apply_list old.text (take made.count edits)
  pub from_scratch : new.tokens ≡ tokens_in (layout new.text)

-- Holds if these edits keep `made.front` tokens in front and `made.back` tokens at the back, which are the minimums
-- over the edits.
pub record AreKeptTo {S : Type 0} (layout : List ℕ → Layout) (old : LexedModel S) (edits : List Edit)
    (made : AppliedCounts) (new : LexedModel S) : Type 0 where
  pub stay : StayAtEnds old.tokens new.tokens made.front made.back
  pub least : AreLeast layout old.text (take made.count edits) (length old.tokens)
      (length old.tokens) made.front made.back
