-- Lexing and relexing in blocks, which are buffers filled with the next tokens, and one token at a time.
use Rattle.std.proofs.Common.{◌≡◌, ℕ, ◌+◌, ◌<◌, ◌≤◌, List, ◌++◌, length, map, take, drop, ap, ◌∙◌, arith}
use Rattle.std.proofs.Common.{length-append, length-drop, length-take-le, take_at, drop-drop, take-add, IsCharBoundary}
use Rattle.std.proofs.Common.{[], false, ◌-◌, max, refl, sym}
use Rattle.std.proofs.lemmas.{Bool.{cases_lt}, List.{drop_all, drop_at, length-map, map-append, map-id, take_rest}, Str.{IsCharBoundary-from_drop}, Grind.{common_steps}}
use Rattle.rustc_lexer.specs.{declared.relex.{boundary.Meeting.Meeting, boundary.TokenStart.TokenStart, relexer.RelexState.RelexState}, Token}
use Rattle.rustc_lexer.specs.{Offsets.{IsBound}, model.Checkpoints.{end_of}}
use Rattle.rustc_lexer.specs.{Classes.{IsText}, Locality.{IsGrammar}, model.Relexer.{HasLengths, IsClear, IsFollowed, IsLast, IsNext}}
use Rattle.rustc_lexer.specs.Relexer.{Advances, Fills, IsMadeOf, IsRelexOf, IsUnderWay, RelexerModel, TakesSteps}
use Rattle.rustc_lexer.specs.{Edits.{IsRelexed, fragment_by}, Relexer.{is_done, known}}
use Rattle.rustc_lexer.specs.declared.relex.{change.Change.{Change}, counts.Relexed.{Relexed}}
use Rattle.rustc_lexer.specs.{Tokens.{IsFilledTo, bound, tokens_by}, laws.Cuts.{at_bound, tokens-cons}}
use Rattle.rustc_lexer.proofs.lemmas.edits.Bounds.{number_le_bound, rest_is, rises}
use Rattle.rustc_lexer.proofs.lemmas.edits.{ByLengths.{follows, not_over}, UnderWay.{below_later, few_lexed, goes_on, left_at, none_between}}
use Rattle.rustc_lexer.proofs.lemmas.{edits.KeptFront.{bound-shift}, tokens.Progress.{IsLexedTo, lexed_offset}}

-- The next `count` tokens of the rest of a text.
module _ {first : List ℕ → Token} (law : IsGrammar first) (text left : List ℕ) (is : IsText text) (at : ℕ)
    (boundary : IsCharBoundary text at) (left_is : left ≡ drop at text) (count bytes : ℕ)
    (few : count ≤ length (tokens_by first left)) (bytes_is : bytes ≡ bound (tokens_by first left) count) where
  left_text : IsText left
  left_text = rw left_is (rest_is text at is boundary)

  pub block_inside : at + bytes ≤ length text
  block_inside =
      let cut = at_bound law count left left_text in
      omega (arith, bytes_is, ap length left_is, length-drop at text, boundary.0)

  pub block_boundary : IsCharBoundary text (at + bytes)
  block_boundary =
      let cut = at_bound law count left left_text in
      let same : drop (at + bytes) text ≡ drop (bound (tokens_by first left) count) left =
      cc (drop-drop bytes at text, left_is, bytes_is) in
      IsCharBoundary-from_drop text (at + bytes) block_inside (rw same cut.past.utf8)

  pub block_count : count ≤ bytes
  block_count = omega (arith, bytes_is, number_le_bound (tokens_by first left) count few (rises law left left_text))

-- The next `count` tokens follow the tokens that were lexed.
pub more_lexed : (new left items block : List Token) (at past : RelexState) (count : ℕ) → past.front ≡ at.front
    → past.lexed ≡ at.lexed + count → items ≡ take at.lexed (drop at.front.index new) → left ≡ drop (known at) new
    → block ≡ take count left → items ++ block ≡ take past.lexed (drop past.front.index new)
more_lexed new left items block at past count front lexed so left_is block_is =
    grind (arith, common_steps, drop-drop, take-add)

-- A buffer with room gets at least one token, if `end` is after the start of the text.
pub some_filled : {X : Type 0} (form : Token → X) (end : ℕ) (tokens : List Token) (buffer filled : List X) (count : ℕ)
    → IsFilledTo form end tokens buffer filled count → 0 < length buffer → 0 < end → 0 < count
some_filled form end tokens buffer filled count is room some = grind (arith, common_steps, cases_lt)

-- Holds if the buffer starts with the first `count` tokens, unchanged.
pub record IsFront (tokens : List Token) (filled : List Token) (count : ℕ) : Type 0 where
  pub few : count ≤ length tokens
  pub within : count ≤ length filled
  pub front : take count filled ≡ take count tokens

-- Filling a buffer with unchanged tokens gives such a front.
pub front_of : (tokens buffer filled : List Token) (count : ℕ) → count ≤ length tokens
    → filled ≡ map (λ (t : Token). t) (take count tokens) ++ drop count buffer → IsFront tokens filled count
front_of tokens buffer filled count few is = grind (arith, common_steps, length-take-le, map-id, length-append, take_at)

-- The tokens of a block follow the tokens that were lexed before.
lexed_block : {first : List ℕ → Token} (law : IsGrammar first) (text left : List ℕ) (items block : List Token)
    (offset count bytes : ℕ) → IsText text
    → IsLexedTo first text items offset → left ≡ drop offset text → count ≤ length (tokens_by first left)
    → block ≡ take count (tokens_by first left) → bytes ≡ bound (tokens_by first left) count
    → IsLexedTo first text (items ++ block) (offset + bytes)
lexed_block law text left items block offset count bytes is at here few block_is bytes_is =
    grind (arith, common_steps, at_bound, length-append, length-take-le, length-drop, take-add, bound-shift)

-- Holds if `filled` has the next `count` tokens, which have `bytes` bytes.
pub record IsBlock (first : List ℕ → Token) (text : List ℕ) (items filled : List Token)
    (offset count bytes : ℕ) : Type 0 where
  pub more : IsLexedTo first text (items ++ take count filled) (offset + bytes)
  pub number : length (take count filled) ≡ count
  pub few : offset + bytes ≤ length text
  pub some : 0 < bytes

-- A stepper that still has its first grammar fills the buffer with the tokens of the rest.
pub block_more : {first now : List ℕ → Token} (law : IsGrammar first) {text left : List ℕ}
    {items buffer filled : List Token} {offset count bytes end : ℕ}
    → IsText text → now ≡ first → IsLexedTo first text items offset → offset < length text → left ≡ drop offset text
    → 0 < length buffer → 0 < end
    → IsFilledTo (λ (t : Token). t) end (tokens_by now left) buffer filled count
    → bytes ≡ bound (tokens_by now left) count → IsBlock first text items filled offset count bytes
block_more law {text} {left} {items} {buffer} {filled} {offset} {count} {bytes} {end} is same at more here places some
    fills long =
    let long = rw same at long in
    let fills = rw same at fills in
    let front = front_of _ buffer filled count fills.few fills.tokens in
    let next = lexed_block law text left items (take count filled) offset count bytes is at here front.few front.front
    long in
    let fewer = block_count law text left is offset (lexed_offset law text items offset is at).boundary here count bytes
    fills.few long in
    record {
      more = next;
      number = length-take-le count filled front.within;
      few = (lexed_offset law text _ _ is next).inside;
      some = omega (arith, fewer, some_filled (λ (t : Token). t) end _ buffer filled count fills places some);
    }

-- ---- the next tokens of re-lexing

-- The next token alone.
pub next_one : {first : List ℕ → Token} (law : IsGrammar first) (r : RelexerModel) {token : Token} → IsText r.text
    → IsCharBoundary r.text r.at.at → is_done r.text r.at ≡ false → token ≡ first (drop r.at.at r.text)
    → IsNext first r 1 token.len (r.at.at + 1)
next_one {first} law r {token} is boundary going token_is =
    let out = not_over r.at.met r.at.at (length r.text) boundary.0 going in
    let cons = tokens-cons law (drop r.at.at r.text) (rest_is r.text r.at.at is boundary)
    (omega (arith, out.1, length-drop r.at.at r.text)) in
    record {
      some = omega arith;
      few = omega (arith, ap (λ (ts : List Token). length ts) cons);
      bytes_are = rw (cons, ← token_is) (omega arith);
      begun = λ k less. let none : k ≡ 0 = omega arith in rw none (omega arith);
      not_met = out.0;
      clear = λ offset more less. absurd (omega (arith, more, less));
    }

-- Holds if the buffer is filled with the next `count` tokens, which have `bytes` bytes.
pub record IsNextFilled {X : Type 0} (written : Token → X) (first : List ℕ → Token) (r : RelexerModel)
    (buffer filled : List X) (count bytes end : ℕ) : Type 0 where
  pub next : IsNext first r count bytes end
  pub boundary : IsCharBoundary r.text (r.at.at + bytes)
  pub few : count ≤ bytes
  pub within : count ≤ length buffer
  pub tokens : filled ≡ map written (take count (tokens_by first (drop r.at.at r.text))) ++ drop count buffer

pub next_filled : {X : Type 0} {written : Token → X} {first : List ℕ → Token} (law : IsGrammar first) {r : RelexerModel}
    {left : List ℕ} {buffer filled : List X} {count bytes end : ℕ} → IsText r.text → IsCharBoundary r.text r.at.at
    → left ≡ drop r.at.at r.text
    → IsFilledTo written (end - r.at.at) (tokens_by first left) buffer filled count
    → bytes ≡ bound (tokens_by first left) count
    → is_done r.text r.at ≡ false → r.at.at < end → IsClear r end → 0 < length buffer
    → IsNextFilled written first r buffer filled count bytes end
next_filled {X} {written} {first} law {r} {left} {buffer} {filled} {count} {bytes} {end} is boundary left_is to long
    going past clear room =
    let some = some_filled written (end - r.at.at) (tokens_by first left) buffer filled count to room (omega (arith, past))
    in record {
      next = record {
        some = some;
        few = rw left_is at to.few;
        bytes_are = rw left_is at long;
        begun = rw left_is at to.begun;
        not_met = (not_over r.at.met r.at.at (length r.text) boundary.0 going).0;
        clear = clear;
      };
      boundary = block_boundary law r.text left is r.at.at boundary left_is count bytes to.few long;
      few = block_count law r.text left is r.at.at boundary left_is count bytes to.few long;
      within = to.within;
      tokens = rw left_is at to.tokens;
    }

-- Re-lexing goes on after the next `count` tokens, if the old tokens were followed up to their end.
pub advanced : {first : List ℕ → Token} (law : IsGrammar first) (r : RelexerModel) (count bytes end : ℕ) (to : Meeting)
    → IsText r.text → IsCharBoundary r.text r.at.at → IsCharBoundary r.text (r.at.at + bytes) → count ≤ bytes
    → IsNext first r count bytes end → (last : ℕ) → last ≡ length r.text
    → (r.at.at + bytes < r.change.new_end → to.at ≡ r.at.back)
    → (r.at.at + bytes < r.change.new_end → to.met ≡ false)
    → ((ts : List Token) → HasLengths ts r.lengths → IsBound ts r.at.back
    → ((k : ℕ) → k < r.at.back.index
    → bound ts k + r.change.new_end < max r.change.new_end (r.at.at + bytes) + r.change.old_end)
    → (r.at.at + bytes ≡ last → IsLast ts (r.at.at + bytes - r.change.new_end + r.change.old_end))
    → IsFollowed ts r.change.old_end r.change.new_end (r.at.at + bytes) to.at to.met)
    → Advances first r count (record r {
      at = record {
        front = r.at.front;
        lexed = r.at.lexed + count;
        back = to.at;
        at = r.at.at + bytes;
        met = to.met;
      };
    })
advanced {first} law r count bytes end to is boundary inside few next last last_is stays early followed =
    let rest : List ℕ = drop r.at.at r.text in
    let cut = at_bound law count rest (rest_is r.text r.at.at is boundary) in
    let past : RelexState =
    record { front = r.at.front; lexed = r.at.lexed + count; back = to.at; at = r.at.at + bytes; met = to.met } in
    let steps : TakesSteps first r.text r.change.new_end r.at count past = record {
      inside = next.few;
      none = λ e. absurd (omega (arith, next.some, e));
      front = refl;
      lexed = refl;
      offset = ap (λ n. r.at.at + n) next.bytes_are;
      same_back = stays;
      not_met = λ some less. early less;
    } in
    record {
      same_text = refl;
      same_lengths = refl;
      same_change = refl;
      steps = steps;
      left = cc (cut.rest, drop-drop bytes r.at.at r.text, next.bytes_are);
      ahead = omega (arith, few);
      inside = λ _. inside.0;
      goes_on = λ before insert is.
          let made = is.made_of in
          let at = is.under_way in (
            record {
              made_of = made;
              under_way = goes_on law made at steps next.not_met
                  (none_between law made at steps end next.clear next.begun)
                  (follows law made (r.at.at + bytes) last last_is at.back_bound
                  (below_later law made at (r.at.at + bytes) (omega arith)) (followed (tokens_by first before)));
            },
            left_at law made at,
          );
    }

-- ---- steps one after another

-- Zero steps change nothing.
no_step : (first : List ℕ → Token) (text : List ℕ) (past : ℕ) (at : RelexState) → TakesSteps first text past at 0 at
no_step first text past at = grind (arith, common_steps)

-- More steps, after which the tokens of the rest are left.
steps_more : {first : List ℕ → Token} {text : List ℕ} {past count more : ℕ} {begin at next : RelexState} → 0 < more
    → drop count (tokens_by first (drop begin.at text)) ≡ tokens_by first (drop at.at text)
    → TakesSteps first text past begin count at → TakesSteps first text past at more next
    → TakesSteps first text past begin (count + more) next
steps_more {first} {text} {past} {count} {more} {begin} some left_is steps step =
    let all : List Token = tokens_by first (drop begin.at text) in
    record {
      inside = omega (arith, step.inside, ap length left_is, length-drop count all);
      none = λ e. absurd (omega (arith, some, e));
      front = step.front ∙ steps.front;
      lexed = omega (arith, step.lexed, steps.lexed);
      offset = rw (bound-shift all count more, left_is) (omega (arith, step.offset, steps.offset));
      same_back = λ early. step.same_back early ∙ steps.same_back (omega (arith, early, step.offset));
      not_met = λ _ early. step.not_met some early;
    }

-- Re-lexing that has not gone on yet.
pub fills_none : {X : Type 0} (written : Token → X) {first : List ℕ → Token} (law : IsGrammar first) (r : RelexerModel)
    (buffer : List X) → Fills written first r buffer 0 r buffer
fills_none written {first} law r buffer = record {
  advances = record {
    same_text = refl;
    same_lengths = refl;
    same_change = refl;
    steps = no_step first r.text r.change.new_end r.at;
    left = refl;
    ahead = omega arith;
    inside = λ some. absurd (omega (arith, some));
    goes_on = λ before insert is. (is, left_at law is.made_of is.under_way);
  };
  within = omega arith;
  tokens = refl;
}

-- The rest of the buffer is filled next.
pub fills_more : {X : Type 0} {written : Token → X} {first : List ℕ → Token} {r at next : RelexerModel}
    {buffer filled rest : List X} {count more : ℕ} → Fills written first r buffer count at filled
    → Fills written first at (take (length filled - count) (drop count filled)) more next rest → 0 < more
    → Fills written first r buffer (count + more) next
    (take count filled ++ (rest ++ drop (length filled - count) (drop count filled)))
fills_more {X} {written} {first} {r} {at} {next} {buffer} {filled} {rest} {count} {more} f m some =
    let m = rw (take_rest filled count) at m in
    let a = f.advances in
    let b = m.advances in
    let all : List Token = tokens_by first (drop r.at.at r.text) in
    let step : TakesSteps first r.text r.change.new_end at.at more next.at =
    rw (a.same_text, a.same_change) at b.steps in
    let left : tokens_by first (drop at.at.at at.text) ≡ drop count all = rw a.same_text (sym a.left) in
    let rest_is : rest ≡ map written (take more (drop count all)) ++ drop more (drop count filled) =
    rw left at m.tokens in
    let none : drop (length filled - count) (drop count filled) ≡ [] =
    drop_all (length filled - count) (drop count filled) (omega (arith, length-drop count filled)) in
    let size : length (map written (take count all)) ≡ count =
    length-map (take count all) written ∙ length-take-le count all a.steps.inside in
    let front : take count filled ≡ map written (take count all) =
    rw f.tokens (take_at _ _ count size) in
    let back : drop count filled ≡ drop count buffer = rw f.tokens (drop_at _ _ count size) in
    record {
      advances = record {
        same_text = b.same_text ∙ a.same_text;
        same_lengths = b.same_lengths ∙ a.same_lengths;
        same_change = b.same_change ∙ a.same_change;
        steps = steps_more some a.left a.steps step;
        left = sym (drop-drop more count all) ∙ (ap (drop more) a.left ∙ rw a.same_text at b.left);
        ahead = omega (arith, a.ahead, b.ahead);
        inside = λ _. rw a.same_text at (b.inside some);
        goes_on = λ before insert is.
            let here = a.goes_on before insert is in ((b.goes_on before insert here.0).0, here.1);
      };
      within = omega (arith, m.within, ap length back, length-drop count buffer, f.within);
      tokens = grind (arith, common_steps, map-append, take-add, drop-drop, front, back, rest_is, none);
    }

-- ---- the start and the end of re-lexing

pub begun_as : {first : List ℕ → Token} {before insert text lengths : List ℕ} {change : Change} {r : RelexerModel}
    → (r.text ≡ text) × (r.lengths ≡ lengths) × (r.change ≡ change)
    → IsMadeOf first before lengths change insert text → IsUnderWay first before change text r.at
    → IsRelexOf first before insert r
begun_as e made under_way = record { made_of = rw (e.0, e.1, e.2) made; under_way = rw (e.0, e.2) under_way }

pub few_relexed : {first : List ℕ → Token} (law : IsGrammar first) {before insert : List ℕ} {change : Change}
    {r : RelexerModel} {counts : Relexed} → IsRelexOf first before insert r → r.change ≡ change
    → IsRelexed (fragment_by first) before change.start change.old_end insert counts → r.at.lexed ≤ counts.lexed
few_relexed law {counts = r} is e counted = few_lexed law is.made_of is.under_way r (rw e counted)

-- The end of the last token that was lexed is a boundary.
pub end_bound : {first : List ℕ → Token} {before insert text : List ℕ} {r : RelexerModel} {end : TokenStart}
    → IsRelexOf first before insert r → r.text ≡ text → end ≡ end_of r.at → IsBound (tokens_by first text) end
end_bound is text_is end_is = rw (← text_is, end_is) (is.under_way.inside, is.under_way.offset)
