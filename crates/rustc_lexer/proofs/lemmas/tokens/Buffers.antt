-- A buffer that is filled from the start with the tokens of a text.
use Rattle.std.proofs.Common.{All, ◌≡◌, ℕ, zero, suc, ◌+◌, ◌-◌, ◌<◌, ◌≤◌, List, [], ◌∷◌, ◌++◌, length, map}
use Rattle.std.proofs.Common.{take, drop, min, inl, inr, refl, ap, ◌∙◌, arith, slice_set, length-drop}
use Rattle.std.proofs.lemmas.Bool.{cases_lt}
use Rattle.std.proofs.lemmas.List.{take-append-drop, take_more_set, drop-set-lt, drop-drop, length-set, map-append}
use Rattle.std.proofs.lemmas.{List.Elements.{All-head, All-tail}, Str.{IsCharBoundary-from_drop}}
use Rattle.std.proofs.{Math.Nat.{min-eq_left, min-eq_right, min-le_right}, lemmas.Grind.{common_steps}}
use Rattle.rustc_lexer.specs.{Token, Edition, FrontmatterAllowed}
use Rattle.rustc_lexer.specs.Tokens.{IsFilledTo, state_past, bound, tokens_by, tokens_left, Partitions}
use Rattle.rustc_lexer.specs.Tokens.{TakesToken}
use Rattle.rustc_lexer.specs.{model.Tokens.{IsFilled}, State.{State}, Classes.{IsText}, Locality.{IsGrammar}}
use Rattle.rustc_lexer.specs.LanguageText.{Mode, part, mode_edition, mode_in}
use Rattle.rustc_lexer.specs.{model.{Edition.{first_token_in}, Taking.{take_next}}, laws.Edition.{edition_grammar}}
use Rattle.rustc_lexer.specs.laws.Cuts.{IsCutAt, at_bound, tokens-cons}
use Rattle.rustc_lexer.proofs.lemmas.tokens.Progress.{IsOffset, next-from_drop, none_more, none_past}

-- Holds if the first `count` tokens are written, and the rest of the buffer is unchanged.
pub record IsWritten {X : Type 0} (written : Token → X) (tokens : List Token) (buffer filled : List X)
    (count : ℕ) : Type 0 where
  pub front : take count filled ≡ map written (take count tokens)
  pub back : drop count filled ≡ drop count buffer
  pub few : count ≤ length tokens
  pub within : count ≤ length buffer
  pub long : length filled ≡ length buffer

pub none_written : {X : Type 0} (written : Token → X) (tokens : List Token) (buffer : List X)
    → IsWritten written tokens buffer buffer 0
none_written written tokens buffer =
    record { front = refl; back = refl; few = omega arith; within = omega arith; long = refl }

module _ {X : Type 0} (written : Token → X) (tokens left : List Token) (buffer filled : List X) (count : ℕ)
    (token : Token) (is : IsWritten written tokens buffer filled count) (next : drop count tokens ≡ token ∷ left)
    (fits : count < length filled) where
  pub one_written : (x : X) → x ≡ written token → IsWritten written tokens buffer (slice_set filled count x) (count + 1)
  one_written x e =
      grind (arith, common_steps, next-from_drop, take_more_set, map-append, drop-set-lt, drop-drop, length-set)

pub whole_buffer : {X : Type 0} (written : Token → X) (tokens : List Token) (buffer filled : List X) (count : ℕ)
    → IsWritten written tokens buffer filled count → filled ≡ map written (take count tokens) ++ drop count buffer
whole_buffer written tokens buffer filled count is = cc (take-append-drop count filled)

-- All tokens are written, so the buffer is filled.
pub all_written : {X : Type 0} (written : Token → X) (tokens : List Token) (buffer filled : List X) (count : ℕ)
    → IsWritten written tokens buffer filled count → length tokens ≤ count → IsFilled written tokens buffer filled count
all_written written tokens buffer filled count is all = grind (arith, common_steps, min-eq_right, whole_buffer)

-- If the next token starts before `end`, so do all tokens up to it.
pub begun_more : (tokens : List Token) (count at end : ℕ) → at ≡ bound tokens count → at < end
    → ((k : ℕ) → k < count → bound tokens k < end) → (k : ℕ) → k < count + 1 → bound tokens k < end
begun_more tokens count at end offset more begun k less = grind (arith, common_steps, cases_lt)

pub written_to : {X : Type 0} (written : Token → X) (end : ℕ) (tokens : List Token) (buffer filled : List X) (count : ℕ)
    → IsWritten written tokens buffer filled count → ((k : ℕ) → k < count → bound tokens k < end)
    → (count < length filled → end ≤ bound tokens count)
    → IsFilledTo written end tokens buffer filled count
written_to written end tokens buffer filled count is begun done = grind (arith, common_steps, whole_buffer)

-- ---- the end of the tokens in the text

module _ {first : List ℕ → Token} (law : IsGrammar first) (text : List ℕ) (is : IsText text) (count at : ℕ)
    (offset : at ≡ bound (tokens_by first text) count) where
  cut : IsCutAt first text (tokens_by first text) count
  cut = at_bound law count text is

  pub stands : IsOffset text at
  stands = rw offset record {
    inside = cut.inside;
    boundary = IsCharBoundary-from_drop text _ cut.inside cut.past.utf8;
    front = cut.front;
    past = cut.past;
  }

  pub next_token : at < length text → drop count (tokens_by first text) ≡ first (drop at text) ∷ tokens_by first
      (drop (first (drop at text)).len (drop at text))
  next_token more = grind (arith, length-drop at text, cut.rest, offset, tokens-cons, stands)

  pub next_offset : at < length text → at + (first (drop at text)).len ≡ bound (tokens_by first text) (count + 1)
  next_offset more = grind (arith, common_steps, next_token, next-from_drop _ count _ _ (next_token more))

-- The tokens that start before the end of the text are all tokens.
pub filled_all : {first : List ℕ → Token} (law : IsGrammar first) {X : Type 0} (written : Token → X) (text : List ℕ)
    → IsText text → (end : ℕ) → end ≡ length text → (buffer filled : List X) (count : ℕ)
    → IsFilledTo written end (tokens_by first text) buffer filled count
    → IsFilled written (tokens_by first text) buffer filled count
filled_all {first} law written text is end whole buffer filled count to = record {
  as_many = elim (cases_lt count (length buffer)) [
    | inl more ↦
        let far = to.all more in
        let n : length (tokens_by first text) ≤ count = none_past law text count is (omega (arith, whole)) in
        omega (arith, to.few, to.within)
    | inr full ↦ omega (arith, to.few, to.within)
  ];
  tokens = to.tokens;
}

-- ---- the state after some tokens

-- The flag and the edition of an iterator determine its mode.
pub mode_held : (allowed : FrontmatterAllowed) (edition : Edition) (mode : Mode) → mode_in allowed edition ≡ mode
    → mode ≡ mode_in allowed (mode_edition mode)
mode_held allowed edition mode w3 = grind (arith, common_steps)

-- Each token has at least one byte.
pub count_bound : (tokens : List Token) → All (λ t. 0 < t.len) tokens → (count : ℕ) → count ≤ length tokens
    → count ≤ bound tokens count
count_bound tokens some zero few = omega arith
count_bound [] some (suc count) few = absurd (omega arith)
count_bound (t ∷ ts) some (suc count) few = let ih =
    count_bound ts (All-tail (λ (t : Token). 0 < t.len) t ts some) count (omega arith) in
    let one = All-head (λ (t : Token). 0 < t.len) t ts some in omega arith

pub shorter_left : (text left : List ℕ) (tokens : List Token) → Partitions text tokens → (buffer count : ℕ)
    → count ≡ min buffer (length tokens) → left ≡ drop (bound tokens count) text → 0 < buffer → 0 < length text
    → length left < length text
shorter_left text left tokens parts buffer count e cut some_buffer some_text =
    grind (arith, common_steps, cases_lt, min-eq_left, min-eq_right, min-le_right, length-drop, count_bound)

-- ---- one token after another

module _ (s at past : State) (count : ℕ) (token : Token) (there : at ≡ state_past count s)
    (left : tokens_left at ≡ drop count (tokens_left s))
    (takes : TakesToken at token past) where
  more_is : count + 1 ≡ suc count
  more_is = omega arith

  pub next_is : drop count (tokens_left s) ≡ token ∷ tokens_left past
  next_is = cc

  pub past_more : past ≡ state_past (count + 1) s
  past_more =
      let one : (take_next at).1 ≡ state_past (suc count) s = rw there refl in cc (takes.advances, one, more_is)

  pub left_more : tokens_left past ≡ drop (count + 1) (tokens_left s)
  left_more = rw (← drop-drop 1 count (tokens_left s), next_is) refl

  pub rest_more : at.rest ≡ drop (bound (tokens_left s) count) s.rest
      → past.rest ≡ drop (bound (tokens_left s) (count + 1)) s.rest
  rest_more cut = grind (arith, common_steps, next-from_drop, drop-drop, more_is)

-- ---- one token of a fragment after another

module _ (edition : Edition) (text : List ℕ) (is : IsText text) (s : State) (mode : s.mode ≡ part edition)
    (rest : s.rest ≡ text) (some : 0 < length text) where
  left_is : tokens_left s ≡ first_token_in edition text ∷ tokens_by (first_token_in edition)
      (drop (first_token_in edition text).len text)
  left_is = rw (mode, rest) (tokens-cons (edition_grammar edition) text is some)

  pub token_taken : (t : State) (token : Token) → TakesToken s token t → token ≡ first_token_in edition text
  token_taken t token takes = cc (takes.first, left_is)

  pub some_left : 0 < length (tokens_left s)
  some_left = rw left_is (omega arith)

-- Holds if the first `count` tokens of a text in an edition are written, and all of them start before `end`.
pub record IsFilling {X : Type 0} (form : Token → X) (edition : Edition) (text : List ℕ) (end : ℕ)
    (buffer filled : List X) (count : ℕ) (s : State) : Type 0 where
  pub mode : s.mode ≡ part edition
  pub rest : s.rest ≡ drop (bound (tokens_by (first_token_in edition) text) count) text
  pub written : IsWritten form (tokens_by (first_token_in edition) text) buffer filled count
  pub begun : (k : ℕ) → k < count → bound (tokens_by (first_token_in edition) text) k < end

-- Writing one more token keeps the invariant.
pub filled_more : {X : Type 0} (written : Token → X) (edition : Edition) (text : List ℕ) (end : ℕ)
    (buffer filled : List X) (count : ℕ) (s t : State) (token : Token) (x : X)
    → IsText text → end ≤ length text → IsFilling written edition text end buffer filled count s
    → length text - end < length s.rest → count < length filled → TakesToken s token t → x ≡ written token
    → IsFilling written edition text end buffer (slice_set filled count x) (count + 1) t
filled_more written edition text end buffer filled count s t token x is inside at more room takes e =
    let law = edition_grammar edition in
    let first : List ℕ → Token = first_token_in edition in
    let offset : ℕ = bound (tokens_by first text) count in
    let early : offset < end = omega (arith, more, ap length at.rest, length-drop offset text) in
    let here : offset < length text = omega (arith, early, inside) in
    let past = (stands law text is count offset refl).past in
    let token_is : token ≡ first (drop offset text) =
    token_taken edition (drop offset text) past s at.mode at.rest (omega (arith, here, length-drop offset text)) t
    token takes in
    record {
      mode = rw at.mode at takes.mode;
      rest = cc (takes.rest, drop-drop token.len offset text, next_offset law text is count offset refl here);
      written = one_written written _ _ buffer filled count _ at.written
          (next_token law text is count offset refl here) room x (e ∙ ap written token_is);
      begun = begun_more (tokens_by first text) count offset end refl early at.begun;
    }

pub ruleset fill_lemmas = (none_written, none_more, all_written, whole_buffer)
