-- Relexing under way: from its start, token by token, to the meeting.
use Rattle.std.proofs.Common.{◌≡◌, ◌↔◌, ℕ, ◌+◌, ◌-◌, ◌<◌, ◌≤◌, Bool, true, false, eqb, eqb-true, List, ◌∷◌}
use Rattle.std.proofs.Common.{◌++◌, length, take, drop, refl, sym, ap, ◌∙◌, suc, arith, inl, inr}
use Rattle.std.proofs.Common.{length-drop, drop-drop, take-append-drop, max, eq-or-lt_of_le}
use Rattle.std.proofs.lemmas.{Bool.{cases_lt}, List.{length-map}, Grind.{common_steps}}
use Rattle.rustc_lexer.specs.declared.relex.boundary.{Meeting.Meeting, TokenStart.TokenStart}
use Rattle.rustc_lexer.specs.{declared.relex.{change.Change.Change, counts.Relexed.Relexed, relexer.RelexState.RelexState}, Token}
use Rattle.rustc_lexer.specs.{Classes.{IsText}, Edits.{IsMeeting, IsRelexed, fragment_by}, Locality.{IsGrammar, has_two}}
use Rattle.rustc_lexer.specs.{Offsets.{IsBound}, Relexer.{IsMadeOf, IsUnderWay, IsWhole, TakesSteps, known}}
use Rattle.rustc_lexer.specs.{Tokens.{bound, tokens_by}, model.Relexer.{IsClear, IsFollowed, IsLexed, kept_front}}
use Rattle.rustc_lexer.specs.laws.Cuts.{at_bound, tokens-cons}
use Rattle.rustc_lexer.proofs.lemmas.edits.Bounds.{bound_mono, rises}
use Rattle.rustc_lexer.proofs.lemmas.edits.FrontAndBack.{bound-same, edited, has_two-before, met_rest}
use Rattle.rustc_lexer.proofs.lemmas.edits.KeptFront.{bound-shift}
use Rattle.rustc_lexer.proofs.lemmas.edits.OneAnswer.{ends_meet, front_same, kept_new, bare, counts_of}

module _ (old new : List Token) (old_end new_end number offset : ℕ) (back : TokenStart)
    (offset_is : offset ≡ bound new number) (bound_is : IsBound old back) where
  meets_here : number ≤ length new → (new_end ≤ offset) × (offset + old_end ≡ back.offset + new_end)
      → IsMeeting (bare old) (bare new) old_end new_end number (length old - back.index)
  meets_here few here = grind (arith, common_steps)

  -- The new tokens can meet the old ones only at the boundary up to which the old boundaries were followed.
  meets_there : ((k : ℕ) → k < back.index → bound old k + new_end < max new_end offset + old_end)
      → (new_end ≤ offset → back.index < length old → offset + old_end ≤ back.offset + new_end)
      → (rest : ℕ) × IsMeeting (bare old) (bare new) old_end new_end number rest → (new_end ≤ offset)
      × (offset + old_end ≡ back.offset + new_end)
  meets_there w0 w1 w2 = grind (arith, common_steps, cases_lt, eq-or-lt_of_le, bound_mono)

  met_by : {met : Bool} → number ≤ length new → IsFollowed old old_end new_end offset back met → (met ≡ true)
      ↔ ((rest : ℕ) × IsMeeting (bare old) (bare new) old_end new_end number rest)
  met_by few f = (
    λ hit. (length old - back.index, meets_here few (f.met_is.0 hit)),
    λ m. f.met_is.1 (meets_there f.passed f.reached m),
  )

module _ {first : List ℕ → Token} (law : IsGrammar first) {before lengths insert text : List ℕ} {change : Change}
    (is : IsMadeOf first before lengths change insert text) where
  abbrev old : List Token
  old = tokens_by first before

  abbrev new : List Token
  new = tokens_by first text

  made_text : IsText text
  made_text = (edited is.edit_of).text_is

  abbrev Meets : ℕ → ℕ → Type 0
  Meets = IsMeeting (fragment_by first before) (fragment_by first text) change.old_end change.new_end

  -- The tokens of the kept front are the same before and after the edit.
  pub kept_old : (number : ℕ) → number ≡ kept_front before old change.start → (take number old ≡ take number new)
      × (number ≤ length new)
  kept_old number e = rw e (sym (front_same law is.edit_of), kept_new law is.edit_of)

  -- Each boundary before it is before the edit.
  pub front_below : (kept : TokenStart) → IsBound old kept
      → (0 < kept.index → has_two before kept.offset change.start ≡ true) → (k : ℕ) → k < kept.index
      → bound old k + change.new_end < max change.new_end kept.offset + change.old_end
  front_below kept at two k less = grind (arith, common_steps, bound_mono, kept, has_two-before)

  pub begun : (front : TokenStart) (to : Meeting) → front.index ≡ kept_front before old change.start → IsBound old front
      → IsFollowed old change.old_end change.new_end front.offset to.at to.met
      → (front.offset < change.new_end → to.at ≡ front)
      → IsUnderWay first before change text record {
        front = front;
        lexed = 0;
        back = to.at;
        at = front.offset;
        met = to.met;
      }
  begun front to number at followed stays =
      let same = kept_old front.index number in
      let none : front.index ≡ front.index + 0 = omega arith in
      let offset : front.offset ≡ bound new (front.index + 0) = cc (bound-same front.index old new same.0) in
      let inside : front.index + 0 ≤ length new = omega arith in
      record {
        front = number;
        front_bound = at;
        inside = inside;
        offset = offset;
        none_before = λ number back more less m. omega (arith, more, less);
        met = met_by old new _ _ _ _ _ offset followed.bound_is inside followed;
        back_bound = followed.bound_is;
        not_begun = stays;
        passed = followed.passed;
        reached = followed.reached;
      }

  module _ {at : RelexState} (u : IsUnderWay first before change text at) where
    -- The remaining tokens are the tokens of the remaining text.
    pub left_at : tokens_by first (drop at.at text) ≡ drop (known at) new
    left_at = cc (u.offset, (at_bound law (known at) text made_text).rest)

    -- While the tokens have not met, some text is left.
    pub more_left : at.met ≡ false → at.at < length text
    more_left out = elim (cases_lt at.at (length text)) [
      | inl less ↦ less
      | inr over ↦ elim (eq-or-lt_of_le u.inside) [
        | inl end ↦ let hit = u.met.1 (0, rw end (ends_meet law is.edit_of)) in absurd (cc)
        | inr few ↦
            let cut = at_bound law (suc (known at)) text made_text in
            omega (arith, over, u.offset, rises law text made_text (known at) few, cut.inside)
      ]
    ]

    -- At the end of the text the tokens meet.
    pub over_met : at.met ≡ false → eqb at.at (length text) ≡ at.met
    over_met out = grind (arith, common_steps, more_left, eqb-true)

    -- Each boundary that was passed is also before a later offset.
    pub below_later : (later : ℕ) → at.at ≤ later → (k : ℕ) → k < at.back.index
        → bound old k + change.new_end < max change.new_end later + change.old_end
    below_later later le k less = omega (arith, le, u.passed k less)

    -- At most as many tokens were lexed as the whole edit lexes.
    pub few_lexed : (r : Relexed) → IsRelexed (fragment_by first) before change.start change.old_end insert r
        → at.lexed ≤ r.lexed
    few_lexed r counts =
        let c = (counts_of (fragment_by first) is.edit_of r).0 counts in
        let front : r.kept_front ≡ at.front.index = omega (arith, c.kept (omega arith, refl, refl), u.front) in
        elim (cases_lt r.lexed at.lexed) [
          | inl less ↦ absurd (u.none_before _ r.kept_back (omega arith) (omega arith) c.meeting)
          | inr more ↦ more
        ]

    -- After the meeting, the remaining new tokens are the remaining old ones.
    pub rest_met : at.met ≡ true → drop (known at) new ≡ drop at.back.index old
    rest_met hit =
        let here = meets_there old new _ _ _ _ _ u.offset u.back_bound u.passed u.reached (u.met.0 hit) in
        met_rest law is.edit_of (known at) at.back.index (omega (arith, here.0, u.offset))
        (omega (arith, here.1, u.back_bound.1, u.offset))

    -- At the meeting the counts are the counts of the edit, and the new tokens are complete.
    pub counts_met : at.met ≡ true
        → IsRelexed (fragment_by first) before change.start change.old_end insert
        (record { kept_front = at.front.index; lexed = at.lexed; kept_back = length old - at.back.index })
        × IsWhole old new at
    counts_met hit =
        let front = (kept_old at.front.index u.front).0 in
        let rest = rest_met hit in
        let here = meets_there old new _ _ _ _ _ u.offset u.back_bound u.passed u.reached (u.met.0 hit) in (
          (counts_of (fragment_by first) is.edit_of _).1 record {
            kept = λ _. omega (arith, u.front);
            changed = λ none. absurd (none (omega arith, refl, refl));
            meeting = meets_here old new _ _ _ _ _ u.offset u.back_bound u.inside here;
            none_before = u.none_before;
          },
          cc (
            take-append-drop at.front.index new,
            take-append-drop at.lexed (drop at.front.index new),
            drop-drop at.lexed at.front.index new,
          ),
        )

    pub counts_exact : {r : Relexed} (n : ℕ) → n ≡ length lengths
        → r ≡ record { kept_front = at.front.index; lexed = at.lexed; kept_back = n - at.back.index }
        → at.met ≡ true → IsRelexed (fragment_by first) before change.start change.old_end insert r
        × IsWhole old new at
    counts_exact n many counts hit =
        let same : n ≡ length old =
        many ∙ (ap (λ (ns : List ℕ). length ns) is.lengths_are ∙ length-map old (λ (t : Token). t.len)) in
        rw (counts, same) (counts_met hit)

    -- After `count` steps.
    module _ {count : ℕ} {past : RelexState} (steps : TakesSteps first text change.new_end at count past) where
      abbrev left : List Token
      left = tokens_by first (drop at.at text)

      known_past : known past ≡ known at + count
      known_past = rw (steps.front, steps.lexed) (omega arith)

      inside_past : known past ≤ length new
      inside_past = omega (arith, known_past, steps.inside, ap length left_at, length-drop (known at) new, u.inside)

      shift : (k : ℕ) → bound new (known at + k) ≡ at.at + bound left k
      shift k = cc (bound-shift new (known at) k, u.offset, left_at)

      offset_past : past.at ≡ bound new (known past)
      offset_past = omega (arith, steps.offset, shift count, ap (bound new) known_past)

      -- Relexing continues, if the tokens did not meet in between.
      pub goes_on : at.met ≡ false
          → ((number back : ℕ) → known at < number → number < known past → Meets number back → ⊥)
          → IsFollowed old change.old_end change.new_end past.at past.back past.met
          → IsUnderWay first before change text past
      goes_on out none followed = record {
        front = cc (steps.front, u.front);
        front_bound = rw steps.front u.front_bound;
        inside = inside_past;
        offset = offset_past;
        none_before = λ number back more less m. elim (cases_lt number (known at)) [
          | inl early ↦ u.none_before number back (rw steps.front at more) early m
          | inr late ↦ elim (eq-or-lt_of_le late) [
            | inl same ↦ let hit = u.met.1 (back, rw same m) in cc
            | inr later ↦ none number back later less m
          ]
        ];
        met = met_by old new _ _ _ _ _ offset_past followed.bound_is inside_past followed;
        back_bound = followed.bound_is;
        not_begun = λ early. cc (steps.same_back early, u.not_begun (omega (arith, steps.offset)), steps.front);
        passed = followed.passed;
        reached = followed.reached;
      }

      -- The tokens do not meet in between, if relexing is clear up to `end` and all of them start before it.
      pub none_between : (end : ℕ)
          → IsClear (record { text = text; lengths = lengths; change = change; at = at }) end
          → ((k : ℕ) → k < count → bound left k < end - at.at)
          → (number back : ℕ) → known at < number → number < known past → Meets number back → ⊥
      none_between end clear begin number back more less m =
          let k : ℕ = number - known at in
          let here : known at + k ≡ number = omega (arith, more) in
          let early : bound new number < end =
          omega (arith, begin k (omega (arith, known_past)), shift k, ap (bound new) here) in
          let up = rises law text made_text (known at) (omega (arith, m.number_inside)) in
          let later : at.at < bound new number =
          omega (arith, u.offset, bound_mono new (suc (known at)) number more) in
          let free = clear (bound new number) later early (omega (arith, m.past_edit)) in
          elim (cases_lt m.old_number at.back.index) [
            | inl below ↦ omega (arith, u.passed m.old_number below)
            | inr far ↦ omega (arith, u.back_bound.1, bound_mono old at.back.index m.old_number far)
          ]

    -- A step returns the next token of the new text.
    pub gives_next : {token : Token} {past : RelexState} → at.met ≡ false → token ≡ first (drop at.at text)
        → TakesSteps first text change.new_end at 1 past → drop (known at) new ≡ token ∷ drop (known past) new
    gives_next {token} {past} out token_is steps =
        let rest : List ℕ = drop at.at text in
        let rest_is : IsText rest = rw u.offset (at_bound law (known at) text made_text).past in
        let cons = sym left_at ∙ tokens-cons law rest rest_is (omega (arith, more_left out, length-drop at.at text)) in
        cc (cons, ap (drop 1) cons, known_past steps, drop-drop 1 (known at) new, token_is)

  -- The lexed tokens, between the kept tokens, are the new tokens.
  pub lexed_whole : {tokens : List Token} {at : RelexState} → IsLexed first before change text tokens at
      → take at.front.index old ++ (tokens ++ drop at.back.index old) ≡ new
  lexed_whole l = grind (arith, common_steps, counts_met)
