-- A list of edits, one edit at a time, and how much of it was applied.
use Rattle.std.proofs.Common.{◌≡◌, ℕ, ◌+◌, ◌-◌, ◌<◌, ◌≤◌, min, List, [], ◌∷◌, ◌++◌, length, take, drop, get_or, refl}
use Rattle.std.proofs.Common.{◌∙◌, arith, length-drop, length-take-le, drop-drop, Ok}
use Rattle.std.proofs.Common.{Err}
use Rattle.std.specs.List.{All}
use Rattle.std.proofs.lemmas.List.{length-take, take_more, Elements.{All-cons, All-head, All-tail}}
use Rattle.std.proofs.lemmas.{Option.{slice_get-get_or}, Grind.{common_steps}}
use Rattle.rustc_lexer.specs.{Token, laws.Reach.{cut}, declared.relex.edit.Edit.{Edit}}
use Rattle.rustc_lexer.specs.declared.relex.edit_error.EditStop.{EditStop, TheVariants.{Memory}}
use Rattle.rustc_lexer.specs.declared.relex.counts.Relexed.{Relexed}
use Rattle.rustc_lexer.specs.Edits.{IsEdit, IsRelexed, applied, apply_list, count_after, AreEdits, AreRelexed}
use Rattle.rustc_lexer.specs.Edits.{AreStepped, IsGreatest, IsRefusedOn, IsStop, IsStopStepped, stop_at}
use Rattle.rustc_lexer.specs.LexedText.{HaveStepCounts, AreKept, AreKeptThrough, AreApplied, LexedModel, HasStepCount, IsEdited}
use Rattle.rustc_lexer.specs.Partition.{Layout, tokens_in}
use Rattle.rustc_lexer.specs.model.EditSequence.{AreLeast, StayAtEnds, AreKeptTo, AreMadeTo}
use Rattle.rustc_lexer.specs.declared.relex.lexed.edit_sequence.AppliedCounts.{AppliedCounts}

pub apply-last : (text : List ℕ) (es : List Edit) (e : Edit) → apply_list text (es ++ e ∷ []) ≡
    applied (apply_list text es) e
apply-last text [] e = refl
apply-last text (f ∷ es) e = apply-last (applied text f) es e

abbrev pub none : Edit
none = record { start = 0; stop = 0; insert = record { ref_ptr = (0, 0); now = [] } }

-- Holds if the step count grew by the steps of the edit.
abbrev IsStepped : (List ℕ → Layout) → List ℕ → Edit → ℕ → ℕ → Type 0
IsStepped layout text e before after =
    (r : Relexed) × IsRelexed layout text e.start e.stop e.insert.now r
    × (after + (length (layout (applied text e)).head - r.kept_front) ≡ before + r.lexed)

stepped-last : (layout : List ℕ → Layout) (text : List ℕ) (es : List Edit) (e : Edit) (before between after : ℕ)
    → AreStepped layout text es before between → IsStepped layout (apply_list text es) e between after
    → AreStepped layout text (es ++ e ∷ []) before after
stepped-last layout text [] e before between after are is = (after, rw (← are) is, refl)
stepped-last layout text (f ∷ es) e before between after are is =
    (are.0, are.1, stepped-last layout (applied text f) es e are.0 between after are.2 is)

-- With one more edit, the counts are still the minimum.
least-last : (layout : List ℕ → Layout) (r : Relexed) (text : List ℕ) (es : List Edit) (e : Edit)
    (f b front back next_front next_back : ℕ) → next_front ≡ min front r.kept_front → next_back ≡ min back r.kept_back
    → AreLeast layout text es f b front back → IsRelexed layout (apply_list text es) e.start e.stop e.insert.now r
    → AreLeast layout text (es ++ e ∷ []) f b next_front next_back
least-last layout r text [] e f b front back next_front next_back front_is back_is are is = grind (arith, common_steps)
least-last layout r text (d ∷ es) e f b front back next_front next_back front_is back_is are is =
    (are.0, are.1, least-last layout r (applied text d) es e _ _ front back _ _ front_is back_is are.2 is)

edits-last : (text : List ℕ) (es : List Edit) (e : Edit) → AreEdits text es
    → IsEdit (apply_list text es) e.start e.stop e.insert.now
    → AreEdits text (es ++ e ∷ [])
edits-last text [] e are is = (is, tt)
edits-last text (d ∷ es) e are is = (are.0, edits-last (applied text d) es e are.1 is)

-- One more edit of a list, after its first n ones.
module _ (text now : List ℕ) (es : List Edit) (n : ℕ) (few : n < length es)
    (is : now ≡ apply_list text (take n es)) where
  abbrev added : Edit
  added = get_or es n none

  -- The text is the result of one more edit of the list.
  text-more : (after : List ℕ) → after ≡ applied now added → after ≡ apply_list text (take (n + 1) es)
  text-more after made = rw (take_more es n none few, apply-last text (take n es) added, ← is) made

  edits-more : AreEdits text (take n es) → IsEdit now added.start added.stop added.insert.now
      → AreEdits text (take (n + 1) es)
  edits-more are one = rw (take_more es n none few) (edits-last text (take n es) added are (rw (← is) one))

  module _ (layout : List ℕ → Layout) where
    -- One more edit adds its own steps.
    stepped-more : (before between after : ℕ) → AreStepped layout text (take n es) before between
        → IsStepped layout now added between after → AreStepped layout text (take (n + 1) es) before after
    stepped-more before between after are one =
        rw (take_more es n none few) (stepped-last layout text (take n es) added before between after are (rw (← is) one))

    -- If an allocation fails, the step count grew at most by the steps of one more edit.
    stop-stepped : (before between after : ℕ) → AreStepped layout text (take n es) before between → between ≤ after
        → (r : Relexed) × IsRelexed layout now added.start added.stop added.insert.now r
        × (after + (length (layout (applied now added)).head - r.kept_front) ≤ between + r.lexed)
        → IsStopStepped (Memory n) layout text es before after
    stop-stepped before between after are rose more =
        let own : ℕ = length (layout (applied now added)).head - more.0.kept_front in
        let most : ℕ = between + more.0.lexed - own in
        (between, most, are, rose, stepped-more before between most are (more.0, more.1, omega arith), omega arith)

    least-more : (r : Relexed) (f b front back next_front next_back : ℕ) → next_front ≡ min front r.kept_front
        → next_back ≡ min back r.kept_back → AreLeast layout text (take n es) f b front back
        → IsRelexed layout now added.start added.stop added.insert.now r
        → AreLeast layout text (take (n + 1) es) f b next_front next_back
    least-more r f b front back next_front next_back front_is back_is are one =
        rw (take_more es n none few)
        (least-last layout r text (take n es) added f b front back _ _ front_is back_is are (rw (← is) one))

-- The minimum of some numbers is the greatest number that does not exceed any of them.
greatest-next : (read : Relexed → ℕ) (r : Relexed) (rs : List Relexed) (most n : ℕ)
    → IsGreatest (λ n. (n ≤ min most (read r)) × All (λ (c : Relexed). n ≤ read c) rs) n
    → IsGreatest (λ n. (n ≤ most) × All (λ (c : Relexed). n ≤ read c) (r ∷ rs)) n
greatest-next read r rs most n is = (
  (omega (arith, is.0.0), All-cons (λ (c : Relexed). n ≤ read c) r rs (omega (arith, is.0.0)) is.0.1),
  λ m holds. is.1 m (
    omega (arith, holds.0, All-head (λ (c : Relexed). m ≤ read c) r rs holds.1),
    All-tail (λ (c : Relexed). m ≤ read c) r rs holds.1,
  ),
)

pub greatest-of : (layout : List ℕ → Layout) (text : List ℕ) (es : List Edit) (f b front back : ℕ)
    → AreLeast layout text es f b front back
    → (each : List Relexed) × AreRelexed layout text es each
    × IsGreatest (λ n. (n ≤ f) × All (λ (c : Relexed). n ≤ c.kept_front) each) front
    × IsGreatest (λ n. (n ≤ b) × All (λ (c : Relexed). n ≤ c.kept_back) each) back
greatest-of layout text [] f b front back are = grind (arith, common_steps)
greatest-of layout text (e ∷ es) f b front back are =
    let later = greatest-of layout (applied text e) es (min f are.0.kept_front)
    (min b are.0.kept_back) front back are.2 in (
      are.0 ∷ later.0,
      (are.1, later.1),
      greatest-next (λ c. c.kept_front) are.0 later.0 f front later.2,
      greatest-next (λ c. c.kept_back) are.0 later.0 b back later.3,
    )

-- An edit that fails stops the list there, for the same reason.
pub stop_of : (text : List ℕ) (es : List Edit) (s : EditStop) → stop_at s < length es
    → IsRefusedOn s text (get_or es (stop_at s) none) → IsStop s text es
stop_of text es s few refused = (
  few,
  rw (slice_get-get_or es (stop_at s) none few) refused,
)

-- If tokens are kept at the back, fewer tokens are kept too.
fewer_back : (n back : ℕ) (old new : List Token) → n ≤ back → back ≤ length old → back ≤ length new
    → drop (length new - back) new ≡ drop (length old - back) old
    → drop (length new - n) new ≡ drop (length old - n) old
fewer_back n back old new few old_has new_has same =
    let before : length new - back + (back - n) ≡ length new - n = omega arith in
    let after : length old - back + (back - n) ≡ length old - n = omega arith in
    cc (drop-drop (back - n) (length new - back) new, drop-drop (back - n) (length old - back) old)

fewer_stay : {old new : List Token} {front back : ℕ} (n m : ℕ) → n ≤ front → m ≤ back → StayAtEnds old new front back
    → StayAtEnds old new n m
fewer_stay n m few_front few_back stay = grind (arith, common_steps, cut, fewer_back)

-- The counts of an edit determine the tokens that it keeps at both ends.
pub counts_stay : (old new : List Token) (front lexed back : ℕ) → front + lexed + back ≡ length new
    → take front new ≡ take front old → drop (front + lexed) new ≡ drop (length old - back) old
    → StayAtEnds old new front back
counts_stay old new front lexed back all same_front same_back =
    grind (arith, common_steps, length-drop, length-take-le, length-take)

-- After one more edit, the tokens that both edits keep at an end are kept.
pub stay-more : {old between new : List Token} {front back n m : ℕ} (next_front next_back : ℕ)
    → next_front ≡ min front n → next_back ≡ min back m → StayAtEnds old between front back → StayAtEnds between new n m
    → StayAtEnds old new next_front next_back
stay-more next_front next_back front_is back_is before then = grind (arith, common_steps, fewer_stay)

-- The counts of all edits together describe tokens that are the same at the back.
pub counts_back : {old new : List Token} {front back : ℕ} (len kept_back : ℕ) → len ≡ length new
    → kept_back ≡ min back (min (length new) (length old) - front) → StayAtEnds old new front back
    → drop (front + (len - front - kept_back)) new ≡ drop (length old - kept_back) old
counts_back len kept_back len_is fewer stay = grind (arith, common_steps, fewer_stay)

-- Two consecutive edits keep the tokens that both of them keep.
pub kept_then : {old between new : List Token} {a b r : Relexed} → r.kept_front ≡ min a.kept_front b.kept_front
    → r.kept_back ≡ min a.kept_back b.kept_back → count_after r ≡ count_after b → AreKept old between a
    → AreKept between new b → AreKept old new r
kept_then {old} {between} {new} {a} {b} {r} front back count before then =
    let stay = stay-more r.kept_front r.kept_back front back
    (counts_stay old between a.kept_front a.lexed a.kept_back before.all before.front before.back)
    (counts_stay between new b.kept_front b.lexed b.kept_back then.all then.front then.back) in
    let all : r.kept_front + r.lexed + r.kept_back ≡ length new = count ∙ then.all in
    let from : length new - r.kept_back ≡ r.kept_front + r.lexed = omega (arith, all) in
    record {
      all = all;
      front = stay.same_front;
      back = rw from at stay.same_back;
    }

-- ---- how much of a list was applied

module _ {S : Type 0} {layout : List ℕ → Layout} {old mid : LexedModel S} {edits : List Edit} {made : AppliedCounts}
    (m : AreMadeTo layout old edits made mid) where
  abbrev at : ℕ
  at = made.count

  abbrev edit : Edit
  edit = get_or edits at none

  -- The list stops at this edit.
  pub made_stop : (s : EditStop) {T : Type 0} {new : LexedModel S} → stop_at s ≡ at → at < length edits
      → IsRefusedOn s new.text edit → new.text ≡ mid.text
      → new.tokens ≡ tokens_in (layout new.text)
      → AreApplied {T = T} layout old edits (Err s) new
  made_stop s at few refused same scratch = grind (arith, common_steps, stop_of)

  module _ (few : at < length edits) (is : IsEdit mid.text edit.start edit.stop edit.insert.now) where
    pub made_more : {X : Type 0} {r : Relexed} {new : LexedModel S} (next : AppliedCounts)
        → IsEdited {E = X} layout mid edit.start edit.stop edit.insert.now (Ok r) new
        → next.count ≡ at + 1 → next.front ≡ min made.front r.kept_front → next.back ≡ min made.back r.kept_back
        → AreMadeTo layout old edits next new
    made_more next i count_is front_is back_is = grind (arith, common_steps, edits-more, text-more)

    -- After one more edit, the step count has grown by its steps.
    pub counted_more : {X : Type 0} {r : Relexed} (before between after : ℕ) (next : AppliedCounts) → next.count ≡ at + 1
        → IsRelexed layout mid.text edit.start edit.stop edit.insert.now r
        → HasStepCount {E = X} layout mid.text edit.start edit.stop edit.insert.now (Ok r) between after
        → AreStepped layout old.text (take at edits) before between
        → AreStepped layout old.text (take next.count edits) before after
    counted_more {X} {r} before between after next count_is relexed i are =
        rw count_is (stepped-more old.text mid.text edits at few m.text layout before between after are
        (r, relexed, i.count))

    pub kept_more : {X : Type 0} {r : Relexed} {new : LexedModel S} (next : AppliedCounts) → AreKeptTo layout old edits made mid
        → IsEdited {E = X} layout mid edit.start edit.stop edit.insert.now (Ok r) new → next.count ≡ at + 1
        → next.front ≡ min made.front r.kept_front → next.back ≡ min made.back r.kept_back
        → AreKeptTo layout old edits next new
    kept_more {X} {r} {new} next kept i count_is front_is back_is = record {
      stay = stay-more next.front next.back front_is back_is kept.stay
          (counts_stay mid.tokens new.tokens r.kept_front r.lexed r.kept_back i.kept.all i.kept.front i.kept.back);
      least =
          rw count_is (least-more old.text mid.text edits at few m.text layout r _ _ made.front made.back _ _
          front_is back_is kept.least i.relexed);
    }

    -- A failed edit does not change the tokens.
    pub kept_refused : {X : Type 0} {x : X} {new : LexedModel S} → AreKeptTo layout old edits made mid
        → IsEdited {E = X} layout mid edit.start edit.stop edit.insert.now (Err x) new
        → AreKeptTo layout old edits made new
    kept_refused kept i = record { stay = rw i.same_tokens kept.stay; least = kept.least }

    pub made_refused : {X T : Type 0} {x : X} {new : LexedModel S}
        → IsEdited {E = X} layout mid edit.start edit.stop edit.insert.now (Err x) new
        → AreApplied {T = T} layout old edits (Err (Memory at)) new
    made_refused i = made_stop (Memory at) refl few (rw i.same_text is) i.same_text i.from_scratch

    pub counted_refused : {X T : Type 0} {x : X} (before between after : ℕ)
        → HasStepCount {E = X} layout mid.text edit.start edit.stop edit.insert.now (Err x) between after
        → AreStepped layout old.text (take at edits) before between
        → HaveStepCounts {T = T} layout old.text edits (Err (Memory at)) before after
    counted_refused before between after i are = record {
      count = tt;
      stop_count = stop-stepped old.text mid.text edits at few m.text layout before between after are i.rose i.few;
    }

-- No edit is applied yet.
pub made_none : {S : Type 0} {layout : List ℕ → Layout} {old : LexedModel S} (edits : List Edit) (n : ℕ)
    → old.tokens ≡ tokens_in (layout old.text)
    → AreMadeTo layout old edits (record { count = 0; front = n; back = n }) old
made_none edits n scratch = grind (arith, common_steps)

pub kept_none : {S : Type 0} {layout : List ℕ → Layout} {old : LexedModel S} (edits : List Edit) (n : ℕ)
    → n ≡ length old.tokens → AreKeptTo layout old edits (record { count = 0; front = n; back = n }) old
kept_none edits n all = grind (arith, common_steps)

-- ---- the tokens that all edits of a list keep

pub kept_through : {S : Type 0} {layout : List ℕ → Layout} {old new : LexedModel S} {edits : List Edit} {made : AppliedCounts}
    (r : Relexed)
    → AreKeptTo layout old edits made new → r.kept_front ≡ made.front
    → r.kept_back ≡ min made.back (min (length new.tokens) (length old.tokens) - made.front)
    → r.kept_front + r.lexed + r.kept_back ≡ length new.tokens
    → AreKeptThrough layout old (take made.count edits) new r
kept_through {S} {layout} {old} {new} {edits} {made} r kept front back all =
    let stay = kept.stay in
    let most = greatest-of layout old.text (take made.count edits) _ _ _ _ kept.least in
    let past : made.front + (length new.tokens - made.front - r.kept_back) ≡ r.kept_front + r.lexed =
    omega (arith, front, all) in
    record {
      each = most.0;
      each_is = most.1;
      most_front = rw front most.2;
      most_back = (
        (omega arith, omega arith, λ k d less. omega (arith, most.3.0.1 k d less)),
        λ n fits. let less = most.3.1 n (omega arith, fits.2) in omega arith,
      );
      kept = record {
        all = all;
        front = rw front stay.same_front;
        back = rw past at (counts_back (length new.tokens) r.kept_back refl back stay);
      };
    }
