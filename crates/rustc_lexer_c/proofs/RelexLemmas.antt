-- The state of relexing as numbers, and back.
use Rattle.std.specs.Prelude.{IfSome}
use Rattle.std.proofs.Common.{◌≡◌, ◌≢◌, ℕ, ◌+◌, ◌-◌, ◌<◌, ◌≤◌, true, List, ◌++◌, length, map, take, drop, refl, ap}
use Rattle.std.proofs.Common.{◌∙◌, arith, take-add, Option, Some, None}
use Rattle.std.proofs.lemmas.{Grind.{common_steps}, List.{length-map, length-take-le, drop_at, take-map, drop-map}}
use Rattle.rustc_lexer.specs.declared.{edition.Edition.{Edition}}
use Rattle.rustc_lexer.specs.declared.{relex.relexer.RelexState.{RelexState}, token.Token.{Token}}
use Rattle.rustc_lexer.specs.{Tokens.{tokens_by, tokens_of}, Answers.{first_in}, LanguageText.{part}}
use Rattle.rustc_lexer.specs.{Edits.{fragment_by}, Relexer.{known}}
use Rattle.rustc_lexer.specs.Relexer.{Advances, CanContinue, IsChange, IsMadeOf, IsUnderWay, IsWhole, RelexerModel}
use Rattle.rustc_lexer.specs.Relexer.{TakesSteps, is_done}
use Rattle.rustc_lexer.specs.{Classes.{IsText}, LanguageCalls.{edition_of_year}}
use Rattle.rustc_lexer.specs.{Locality.{IsGrammar}, laws.Edition.{edition_grammar}}
use Rattle.rustc_lexer.proofs.lemmas.edits.OneAnswer.{counts_of, relexed_is}
use Rattle.rustc_lexer.proofs.lemmas.edits.UnderWay.{over_met, few_lexed, counts_met}
use Rattle.rustc_lexer_c.specs.declared.{relex.{CEdit.{CEdit}, CRelexing.{CRelexing}}, token.CToken.{CToken}}
use Rattle.rustc_lexer_c.specs.Numbers.{token_numbers}
use Rattle.rustc_lexer_c.specs.Relex.{IsPassed, IsRelexBatch, MayRelex, Relexes, change_of, front_of, lexed_before}
use Rattle.rustc_lexer_c.specs.Relex.{numbers_of, relexing_of, written}

-- A property of the value of an `Option` can be replaced by a consequence.
pub if_some : {X : Type 0} {P Q : X → Type 0} (r : Option X) → IfSome r P → ((x : X) → P x → Q x) → IfSome r Q
if_some None p all = tt
if_some (Some x) p all = all x p

pub if_each : {X : Type 0} {P Q R S : X → Type 0} (r : Option X) → IfSome r P → IfSome r Q → IfSome r R
    → ((x : X) → P x → Q x → R x → S x) → IfSome r S
if_each None p q r all = tt
if_each (Some x) p q r all = all x p q r

pub none_some : {X : Type 0} {x : X} → Some x ≡ None → ⊥
none_some e = grind (arith, common_steps)

-- The invariant is preserved for the text and the change before the call, which stay the same.
pub stands_from : {first : List ℕ → Token} {begin now : RelexerModel} {count : ℕ} → Advances first begin count now
    → (before insert : List ℕ) → IsMadeOf first before begin.lengths begin.change insert begin.text
    → IsUnderWay first before begin.change begin.text begin.at
    → IsUnderWay first before begin.change begin.text now.at
    × (tokens_by first (drop begin.at.at begin.text) ≡ drop (known begin.at) (tokens_by first begin.text))
stands_from a before insert made under_way =
    let so = a.goes_on before insert (record { made_of = made; under_way = under_way }) in
    (rw (a.same_text, a.same_change) at so.0.under_way, so.1)

-- Converting a state to numbers and back gives the same state, if `met` is set exactly when relexing is done.
relex_back : (text : List ℕ) (n : ℕ) (at : RelexState) → at.back.index ≤ n → is_done text at ≡ at.met
    → relexing_of n (numbers_of text n at) ≡ at
relex_back text n at few over = grind (arith, common_steps)

-- The tokens of this call follow the tokens that were written before.
written_more : (new : List Token) (front before count lexed : ℕ) (buffer filled : List CToken) → lexed ≡ before + count
    → front + lexed ≤ length new
    → filled ≡ map token_numbers (take count (drop (front + before) new)) ++ drop count buffer
    → written new front lexed ≡ written new front before ++ take count filled
written_more new front before count lexed buffer filled sum inside e =
    grind (arith, common_steps, length-take-le, take-add)

-- The spliced list has the new tokens.
list_whole : (tokens new : List Token) (at : RelexState) (n : ℕ) (old : List CToken) → n ≡ at.back.index
    → old ≡ map token_numbers tokens → IsWhole tokens new at
    → take at.front.index old ++ (written new at.front.index at.lexed ++ drop n old) ≡ map token_numbers new
list_whole tokens new at n old same e whole = grind (arith, common_steps, take-map, drop-map)

module _ (edition : Edition) (text : List ℕ) (old : List CToken) (change : CEdit) (c : CRelexing)
    (buffer filled : List CToken) (count : ℕ) (begin at : RelexState) where
  abbrev pub lens : List ℕ
  lens = map (λ (t : CToken). t.len) old

  abbrev pub first : List ℕ → Token
  first = first_in edition

  pub over_is : (before insert : List ℕ) → IsMadeOf first before lens (change_of change) insert text
      → IsUnderWay first before (change_of change) text at → is_done text at ≡ at.met
  over_is before insert is stands =
      let law = edition_grammar edition in grind (arith, common_steps, over_met law is stands)

  module _ (within : count ≤ length buffer)
      (steps : TakesSteps first text (change_of change).new_end begin count at)
      (tokens : filled ≡ map token_numbers (take count (tokens_by first (drop begin.at text))) ++ drop count buffer)
      (may : CanContinue text (length old) at) (over_of : count < length buffer → is_done text at ≡ true)
      (before_lexed : begin.lexed ≡ lexed_before c) (begun_front : c.stage ≢ 0 → begin.front ≡ front_of c)
      (begun : (first : List ℕ → Token) (before insert : List ℕ) → IsGrammar first
      → IsMadeOf first before lens (change_of change) insert text
      → IsPassed first before (change_of change) text (length old) c
      → IsUnderWay first before (change_of change) text begin)
      (stands : (before insert : List ℕ) → IsMadeOf first before lens (change_of change) insert text
      → IsUnderWay first before (change_of change) text begin → IsUnderWay first before (change_of change) text at
      × (tokens_by first (drop begin.at text) ≡ drop (known begin) (tokens_by first text))) where
    batch_is : IsRelexBatch edition text old change c buffer (numbers_of text (length old) at) filled count
    batch_is = record {
      within = within;
      rest = grind (arith, common_steps, length-map, length-take-le, drop_at, steps.inside);
      lexed = rw before_lexed at steps.lexed;
      goes_on = λ not. grind (arith, common_steps);
      front = λ later. steps.front ∙ begun_front later;
      may_relex = λ _. grind (arith, common_steps);
      relexed = λ before insert is passed.
          let law = edition_grammar edition in
          let so = stands before insert is (begun first before insert law is passed) in
          let found = relexed_is law is.edit_of in
          let counted = (counts_of (fragment_by first) is.edit_of found.0).1 found.1 in
          let met = counts_met law is so.0 in
          let lexed = steps.lexed in
          let over = over_is before insert is so.0 in
          let same = relex_back text (length old) at may.number over in
          let at_begin : known begin ≡ at.front.index + lexed_before c = omega (arith, ap (λ b. b.index) steps.front) in
          let many : length lens ≡ length old = length-map old (λ (t : CToken). t.len) in
          let all : length (tokens_by first before) ≡ length old =
          cc (length-map (tokens_by first before) (λ (t : Token). t.len), is.lengths_are) in
          let left : tokens_by first (drop begin.at text) ≡ drop (at.front.index + lexed_before c)
          (tokens_of (part edition) text) = so.1 ∙ ap (λ n. drop n (tokens_of (part edition) text)) at_begin in
          let filled_is = rw left at tokens in
          let back : length old - (length old - at.back.index) ≡ at.back.index = omega (arith, may.number) in
          record {
            passed = record {
              near = λ e. grind (arith, common_steps);
              under_way = λ _. rw same so.0;
            };
            tokens = filled_is;
            more = written_more (tokens_of (part edition) text) at.front.index (lexed_before c) count at.lexed buffer
                filled (omega arith) so.0.inside filled_is;
            few = (found.0, counted, few_lexed law is so.0 found.0 counted);
            counts = λ e. rw all at (met (grind (arith, common_steps))).0;
            list = λ e are. list_whole (tokens_by first before) (tokens_by first text) at
                (length old - (length old - at.back.index)) old back are (met (grind (arith, common_steps))).1;
          };
    }

    -- A call that succeeds meets its contract.
    pub relexed : IsText text → (year : ℕ) → edition_of_year year ≡ Some edition
        → ¬ (¬ (IsChange text (change_of change) × MayRelex text (length old) c))
        → Relexes text old change year c (numbers_of text (length old) at) buffer filled count 0
    relexed is year year_is asked = record {
      status_is = record {
        ok = λ _ _ _ _ _. refl;
        not_utf8 = λ _ not. absurd (not is.utf8);
        too_long = λ long. absurd (omega (arith, long, is.fits));
        invalid_edition = λ _ none. grind (arith, common_steps);
        invalid_edit = λ _ _ _ not. absurd (asked not);
      };
      batch = λ _ other other_is.
          let same : edition ≡ other = cc in
          rw (← same) batch_is;
      refused = λ not. absurd (not refl);
    }
