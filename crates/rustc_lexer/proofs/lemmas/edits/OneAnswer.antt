-- The counts of an edit exist; and the counts of the body's tokens determine the counts of all tokens.
use Rattle.std.proofs.Common.{◌≡◌, ◌⊎◌, ℕ, zero, suc, ◌+◌, ◌-◌, ◌<◌, ◌≤◌, List, length, take, refl, sym, ap, subst}
use Rattle.std.proofs.Common.{arith, length-take, inl, inr, eq-or-lt_of_le, ◌↔◌, [], length-append}
use Rattle.std.proofs.lemmas.{Bool.{cases_lt, eqb-false, eqb-true}, Grind.{common_steps}}
use Rattle.rustc_lexer.specs.{declared.relex.{change.Change.Change, counts.Relexed.Relexed}, Token}
use Rattle.rustc_lexer.specs.Edits.{IsMeeting, IsRelexedTo, fragment_by, body_in, IsRelexed, offset_in}
use Rattle.rustc_lexer.specs.{Relexer.{IsEditOf}, Locality.{IsGrammar}, Tokens.{bound, tokens_by}}
use Rattle.rustc_lexer.specs.model.Relexer.{kept_front}
use Rattle.rustc_lexer.proofs.lemmas.edits.{Bounds.{bound-last, cuts}, FrontAndBack.{edited, kept_same}}
use Rattle.rustc_lexer.proofs.lemmas.edits.KeptFront.{kept_few, kept_tells, bound-shift}
use Rattle.std.proofs.Math.Seq.{drop-append_seam}
use Rattle.rustc_lexer.specs.Partition.{Layout}

pub offset-behind : (of : Layout) (k : ℕ) → offset_in of (length of.head + k) ≡ body_in of + bound of.body k
offset-behind of k = grind (arith, common_steps, drop-append_seam, bound-shift)

-- ---- a text without a head

abbrev pub bare : List Token → Layout
bare tokens = record { start = 0; head = []; body = tokens }

-- The counts of an edit are the same, whether they are defined by the inserted text or by the new text.
pub counts_of : (layout : List ℕ → Layout) {text insert made : List ℕ} {edit : Change} → IsEditOf text edit insert made
    → (r : Relexed)
    → IsRelexed layout text edit.start edit.old_end insert r
    ↔ IsRelexedTo (layout text) (layout made) text edit.start edit.old_end edit.new_end r
counts_of layout e r = (λ c. rw (e.made, e.new_end) c, λ c. rw (sym e.made, sym e.new_end) c)

-- ---- a text with a head

-- Holds if `more` is the minimum number of bytes after the edit at which both bodies have started.
pub record IsMore (old new : Layout) (stop new_end more body_stop new_body_stop : ℕ) : Type 0 where
  pub old_more : body_stop + body_in old ≡ stop + more
  pub new_more : new_body_stop + body_in new ≡ new_end + more
  pub least : (other : ℕ) → body_in old ≤ stop + other → body_in new ≤ new_end + other → more ≤ other

-- The bodies meet at the same boundaries as all tokens.
module _ {old new : Layout} {stop new_end more body_stop new_body_stop : ℕ}
    (p : IsMore old new stop new_end more body_stop new_body_stop) where
  pub meets : (number back : ℕ) → IsMeeting (bare old.body) (bare new.body) body_stop new_body_stop number back
      → IsMeeting old new stop new_end (length new.head + number) back
  meets number back m =
      grind (
        arith,
        common_steps,
        m.past_edit,
        m.same_offset,
        offset-behind new number,
        offset-behind old m.old_number,
        length-append,
      )

  pub meets_behind : (number back : ℕ) → IsMeeting old new stop new_end number back
      → IsMeeting (bare old.body) (bare new.body) body_stop new_body_stop (number - length new.head) back
  meets_behind number back m =
      let past = m.past_edit in
      let same = m.same_offset in
      let n : length new.head + (number - length new.head) ≡ number = omega arith in
      let i : length old.head + (m.old_number - length old.head) ≡ m.old_number = omega arith in
      let at = rw n at (offset-behind new (number - length new.head)) in
      let old_at = rw i at (offset-behind old (m.old_number - length old.head)) in
      let far = p.least (offset_in new number - new_end) (omega arith) (omega arith) in
      record {
        number_inside = omega (arith, length-append new.head new.body);
        past_edit = omega arith;
        past_head = omega arith;
        past_old_head = omega arith;
        old_number = m.old_number - length old.head;
        back_is = omega (arith, length-append old.head old.body);
        same_offset = omega arith;
      }

-- ---- the counts of an edit exist

-- ---- decidable properties

abbrev pub Decided : Type 0 → Type 0
Decided P = P ⊎ (P → ⊥)

all : {P Q R : Type 0} → Decided P → Decided Q → Decided R → Decided (P × Q × R)
all w0 w1 w2 = grind (arith, common_steps)

numbers : (a b : ℕ) → Decided (a ≡ b)
numbers a b = grind (arith, common_steps, eqb-true, eqb-false)

at_most : (a b : ℕ) → Decided (a ≤ b)
at_most a b = grind (arith, common_steps, cases_lt)

-- ---- the first boundary at which the texts meet

-- Holds if j is the first number from k on with the property.
pub record IsFirst (P : ℕ → Type 0) (k j : ℕ) : Type 0 where
  pub from : k ≤ j
  pub holds : P j
  pub none_before : (i : ℕ) → k ≤ i → i < j → P i → ⊥

pub first_or_none : (P : ℕ → Type 0) → ((j : ℕ) → Decided (P j)) → (n k : ℕ) → ((j : ℕ) × (j < k + n) × IsFirst P k j)
    ⊎ ((i : ℕ) → k ≤ i → i < k + n → P i → ⊥)
first_or_none P decided zero k = inr (λ i le less p. absurd (omega arith))
first_or_none P decided (suc n) k = by_first (decided k) (first_or_none P decided n (suc k))
  where
    past : {i : ℕ} → (P k → ⊥) → k ≤ i → P i → suc k ≤ i
    past none le p = elim (eq-or-lt_of_le le) [ inl same ↦ absurd (none (subst P (sym same) p)) | inr more ↦ more ]

    by_first : Decided (P k)
        → ((j : ℕ) × (j < suc k + n) × IsFirst P (suc k) j) ⊎ ((i : ℕ) → suc k ≤ i → i < suc k + n → P i → ⊥)
        → ((j : ℕ) × (j < k + suc n) × IsFirst P k j) ⊎ ((i : ℕ) → k ≤ i → i < k + suc n → P i → ⊥)
    by_first (inl now) later =
        inl (
          k,
          omega arith,
          record { from = omega arith; holds = now; none_before = λ i le less p. absurd (omega arith) },
        )
    by_first (inr none) (inl at) = let is = at.2 in
        inl (
          at.0,
          omega (arith, at.1),
          record {
            from = omega (arith, is.from);
            holds = is.holds;
            none_before = λ i le less p. is.none_before i
                (past none le p) less p;
          },
        )
    by_first (inr none) (inr all) = inr (λ i le less p. all i (past none le p) (omega (arith, less)) p)

module _ (old new : List Token) (stop new_end number : ℕ) where
  abbrev At : ℕ → Type 0
  At i = (number ≤ length new) × (new_end ≤ bound new number) × (bound new number + stop ≡ bound old i + new_end)

  pub meets_or_not : Decided ((back : ℕ) × IsMeeting (bare old) (bare new) stop new_end number back)
  meets_or_not = elim (first_or_none At (λ i. all (at_most _ _) (at_most _ _) (numbers _ _)) (suc (length old)) 0) [
    | inl at ↦ let m = at.2.holds in
        inl (
          length old - at.0,
          record {
            number_inside = m.0;
            past_edit = omega arith;
            past_head = omega arith;
            old_number = at.0;
            past_old_head = omega arith;
            back_is = omega (arith, at.1);
            same_offset = omega arith;
          },
        )
    | inr none ↦ inr
        (λ m. none m.1.old_number (omega arith) (omega (arith, m.1.back_is))
        (m.1.number_inside, omega (arith, m.1.past_edit), omega (arith, m.1.same_offset)))
  ]

-- ---- an edit

module _ {first : List ℕ → Token} (law : IsGrammar first) {text insert new_text : List ℕ} {edit : Change}
    (e : IsEditOf text edit insert new_text) where
  abbrev old : List Token
  old = tokens_by first text

  abbrev new : List Token
  new = tokens_by first new_text

  abbrev kept : ℕ
  kept = kept_front text old edit.start

  few : kept ≤ length old
  few = kept_few text old edit.start e.is_text.utf8 (cuts law text e.is_text)

  -- The tokens of the kept front are tokens of the new text.
  pub front_same : take kept new ≡ take kept old
  front_same = kept_same law e kept few
      ((kept_tells text old edit.start e.is_text.utf8 (cuts law text e.is_text) kept few).1 (omega arith))

  pub kept_new : kept ≤ length new
  kept_new = omega (arith, ap length front_same, few, length-take kept new, length-take kept old)

  abbrev Meets : ℕ → ℕ → Type 0
  Meets = IsMeeting (fragment_by first text) (fragment_by first new_text) edit.old_end edit.new_end

  -- Old and new tokens meet at the end.
  pub ends_meet : Meets (length new) 0
  ends_meet =
      let ed = edited e in
      let end = bound-last law new_text ed.text_is in
      let old_end = bound-last law text e.is_text in
      record {
        number_inside = omega arith;
        past_edit = omega arith;
        past_head = omega arith;
        old_number = length old;
        past_old_head = omega arith;
        back_is = omega arith;
        same_offset = omega arith;
      }

  -- Therefore the counts of the edit exist.
  pub relexed_is : (r : Relexed)
      × IsRelexedTo (fragment_by first text) (fragment_by first new_text) text edit.start edit.old_end edit.new_end r
  relexed_is = elim (first_or_none (λ j. (back : ℕ) × Meets j back) (meets_or_not old new edit.old_end edit.new_end)
      (suc (length new - kept)) kept) [
        | inl at ↦
            let is = at.2 in
            let sum : at.0 ≡ kept + (at.0 - kept) = omega (arith, is.from) in (
              record { kept_front = kept; lexed = at.0 - kept; kept_back = is.holds.0 },
              record {
                kept = λ k. omega arith;
                changed = λ none. absurd (none (omega arith, refl, refl));
                meeting = rw (← sum) is.holds.1;
                none_before = λ number back le less m. is.none_before number le (omega (arith, less, sum)) (back, m);
              },
            )
        | inr none ↦ absurd (none (length new) kept_new (omega (arith, kept_new)) (0, ends_meet))
      ]
