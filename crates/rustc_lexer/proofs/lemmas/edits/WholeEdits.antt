-- An edit of a text with its head: the edit of the body, whose counts determine the counts of the whole edit.
use Rattle.std.proofs.Common.{◌≡◌, ℕ, max, ◌+◌, ◌-◌, ◌<◌, ◌≤◌, Bool, true, false, if◌then◌else◌, List, []}
use Rattle.std.proofs.Common.{◌∷◌, length, map, drop, refl, sym, ap, arith, drop-drop, IsTrue, ◌↔◌, ◌++◌, take}
use Rattle.std.proofs.Common.{length-drop, take-append-drop, length-take-le, IsUtf8, IsCharBoundary}
use Rattle.std.proofs.Common.{take-add, append_assoc, Result, OnOk}
use Rattle.std.proofs.Math.Nat.{le-max_left, le-max_right, max-le}
use Rattle.std.specs.List.{count_by}
use Rattle.std.proofs.lemmas.Grind.{common_steps}
use Rattle.rustc_lexer.specs.{Token, declared.{head.Head.{Head}, relex.{change.Change.Change, counts.Relexed.Relexed}}}
use Rattle.rustc_lexer.specs.Edits.{body_in, ends_from, IsMeeting, IsRelexed, IsRelexedTo, fragment_by, apply, KeepsHead}
use Rattle.rustc_lexer.specs.Locality.{has_two, IsGrammar}
use Rattle.rustc_lexer.specs.{Relexer.{IsEditOf, IsMadeOf, IsBodyChange, IsHeadOf, IsInBody}, Partition.{Layout}}
use Rattle.rustc_lexer.specs.Tokens.{tokens_by}
use Rattle.rustc_lexer.specs.model.Document.{body_change, body_insert, by_head, counted, IsHeadIn, TakesFew}
use Rattle.rustc_lexer.specs.model.Document.{tokens_of_head}
use Rattle.rustc_lexer.proofs.lemmas.edits.KeptFront.{kept_none}
use Rattle.rustc_lexer.proofs.lemmas.edits.OneAnswer.{relexed_is, counts_of, IsMore, meets, meets_behind}
use Rattle.rustc_lexer.proofs.lemmas.edits.{FrontAndBack.{edited, IsEdited}, Bounds.{count-cons, rest_is}}
use Rattle.rustc_lexer.proofs.lemmas.edits.Heads.{body_at, boundary_of, head_stays, heads_are, whole_head}
use Rattle.std.proofs.lemmas.{Bool.{cases_lt}, List.{drop-take, drop-append-le}}
use Rattle.std.proofs.lemmas.Str.{IsUtf8-drop, IsUtf8-take, IsCharBoundary-from_drop}
use Rattle.rustc_lexer.specs.{Classes.{IsText}, Document.{body_start, head_tokens, document_by}}

-- A char boundary of a text after an offset is a char boundary of the rest from the offset on.
pub boundary-past : (xs : List ℕ) (from p : ℕ) → IsUtf8 xs → from ≤ p → IsCharBoundary xs p
    → IsCharBoundary (drop from xs) (p - from)
boundary-past xs from p is le at =
    grind (arith, common_steps, drop-drop, IsUtf8-drop, IsCharBoundary-from_drop, length-drop)

-- The rest after the second of two offsets is also a rest of the rest after the first.
drop-past : (xs : List ℕ) (from p : ℕ) → from ≤ p → drop p xs ≡ drop (p - from) (drop from xs)
drop-past xs from p le = grind (arith, common_steps, drop-drop)

by_max : (P : ℕ → Type 0) (a b : ℕ) → P a → P b → P (max a b)
by_max P a b pa pb = grind (arith, common_steps, cases_lt, le-max_right, max-le, le-max_left)

-- The sum a + (b - a) is a or b.
by_past : (P : ℕ → Type 0) (a b : ℕ) → P a → P b → P (a + (b - a))
by_past P a b pa pb = grind (arith, common_steps, cases_lt)

module _ {first : List ℕ → Token} (law : IsGrammar first) {text insert made : List ℕ} {edit : Change}
    (e : IsEditOf text edit insert made) (from to : ℕ)
    (old_at : IsCharBoundary text from) (now_at : IsCharBoundary made to) where
  abbrev body : List ℕ
  body = drop to made

  abbrev lengths : List ℕ
  lengths = map (λ (t : Token). t.len) (tokens_by first (drop from text))

  ed : IsEdited text edit made
  ed = edited e

  old_text : IsText (drop from text)
  old_text = rest_is text from e.is_text old_at

  -- If the head is kept, the body is the result of the edit, with offsets from the start of the body.
  kept_made : from ≡ to → from ≤ edit.start
      → body ≡ apply (drop from text) (edit.start - from) (edit.old_end - from) insert
  unfolding apply
  kept_made same before =
      let i = e.is_edit.inside in
      let there : from + (edit.start - from) ≡ edit.start = omega arith in
      let few : from ≤ length (take edit.start text) = omega (arith, length-take-le edit.start text (omega arith)) in
      cc (
        e.made,
        drop-take from (edit.start - from) text,
        drop-past text from edit.old_end (omega arith),
        drop-append-le from (take edit.start text) (insert ++ drop edit.old_end text) few,
      )

  kept_body : from ≡ to → from ≤ edit.start
      → IsMadeOf first (drop from text) lengths (body_change true from to edit) insert body
  kept_body same before =
      let i = e.is_edit in grind (arith, e.new_end, old_text, length-drop, boundary-past, kept_made)

  -- Returns how far the change of the body extends after the edit, if the head is not kept.
  abbrev past : ℕ
  past = max (from - edit.old_end) (to - edit.new_end)

  abbrev old_end : ℕ
  old_end = edit.old_end + past

  abbrev new_end : ℕ
  new_end = edit.new_end + past

  same_back : (n : ℕ) → drop (edit.new_end + n) made ≡ drop (edit.old_end + n) text
  same_back n = cc (ed.back, drop-drop n edit.new_end made, drop-drop n edit.old_end text)

  ends_inside : (from ≤ old_end) × (to ≤ new_end) × (old_end ≤ length text) × (new_end ≤ length made)
  unfolding ed
  ends_inside =
      let d = ed in
      let inside : old_end ≤ length text = omega (arith, old_at.0, now_at.0) in
      (omega arith, omega arith, inside, omega arith)

  back_utf8 : IsUtf8 (drop old_end text)
  back_utf8 =
      let stop = IsUtf8-drop text edit.old_end e.is_text.utf8 e.is_edit.inside.stop_boundary in
      by_max (λ n. IsUtf8 (drop (edit.old_end + n) text)) _ _
      (by_past (λ n. IsUtf8 (drop n text)) _ _ stop (IsUtf8-drop text from e.is_text.utf8 old_at))
      (rw (← same_back (to - edit.new_end)) (by_past (λ n. IsUtf8 (drop n made)) _ _ (rw ed.back stop)
      (IsUtf8-drop made to ed.text_is.utf8 now_at)))

  front_body : IsMadeOf first (drop from text) lengths (body_change false from to edit) (take (new_end - to) body) body
  unfolding ed apply same_back ends_inside back_utf8
  front_body =
      let i = ends_inside in
      let d = ed in
      let size = length-drop to made in
      let old_size = length-drop from text in
      let back : drop (new_end - to) body ≡ drop old_end text = cc (drop-past made to new_end i.1, same_back past) in
      let cut : IsCharBoundary body (new_end - to) = IsCharBoundary-from_drop _ _ (omega arith) (rw back back_utf8) in
      let long = length-take-le (new_end - to) body (omega arith) in
      let old_back = drop-past text from old_end i.0 in
      record {
        edit_of = record {
          is_text = old_text;
          is_edit = record {
            inside = record {
              start_le_stop = omega arith;
              stop_inside = omega arith;
              start_boundary = IsCharBoundary-from_drop _ 0 (omega arith) old_text.utf8;
              stop_boundary = IsCharBoundary-from_drop _ _ (omega arith) (rw (← old_back) back_utf8);
            };
            short = omega arith;
          };
          inserted = IsUtf8-take body _ (IsUtf8-drop made to ed.text_is.utf8 now_at) cut;
          made = cc (take-append-drop (new_end - to) body);
          new_end = omega arith;
        };
        lengths_are = refl;
      }

  -- The body is the result of its change.
  pub made_body : (kept : Bool) → (kept ≡ true → (from ≡ to) × (from ≤ edit.start))
      → IsMadeOf first (drop from text) lengths (body_change kept from to edit)
      (body_insert kept (body_change kept from to edit) insert body) body
  made_body true decided = kept_body (decided refl).0 (decided refl).1
  made_body false decided = front_body

-- Tokens after the first n ones are replaced.
pub put_behind : (tokens lexed : List Token) (n f b : ℕ) (keeps : Bool) (head : List Token) → f ≤ b
    → n + b ≤ length tokens → keeps ≡ true → {E : Type 0} (r : Result Unit E) (now : List Token)
    → OnOk r (now ≡ take (n + f) tokens ++ (lexed ++ drop (n + b) tokens))
    → OnOk r (now ≡ (if keeps then take n tokens else head)
    ++ (take f (drop n tokens) ++ (lexed ++ drop b (drop n tokens))))
put_behind tokens lexed n f b keeps head w6 w7 w8 r now w11 =
    grind (arith, common_steps, take-add, drop-drop, append_assoc)

-- ---- the counts of an edit

-- ---- the kept front, by offsets in the whole text and in the body

fronts : (text : List ℕ) (from at to : ℕ) (tokens : List Token)
    → count_by (λ end. has_two (drop from text) end (to - from)) (ends_from at tokens) ≡
    count_by (λ end. has_two text end to) (ends_from (from + at) tokens)
unfolding has_two
fronts text from at to [] = refl
fronts text from at to (t ∷ ts) =
    grind (arith, common_steps, count-cons, drop-drop, fronts text from (at + t.len) to ts)

-- ---- an edit

module _ {first : List ℕ → Token} (law : IsGrammar first) {layout : (List ℕ → Token) → List ℕ → Layout}
    {text insert made : List ℕ} {edit : Change}
    (e : IsEditOf text edit insert made) {was now : Head} (was_is : IsHeadIn layout text was)
    (now_is : IsHeadIn layout made now) {kept : Bool}
    (decided : IsTrue kept ↔ ((was ≡ now) × (was.body ≤ edit.start))) where
  abbrev old : Layout
  old = by_head was first text

  abbrev new : Layout
  new = by_head now first made

  abbrev change : Bool → Change
  change stays = body_change stays was.body now.body edit

  abbrev put : List ℕ
  put = body_insert kept (change kept) insert (drop now.body made)

  same_start : kept ≡ true → (was.body ≡ now.body) × (was.body ≤ edit.start)
  same_start stays = let s = decided.0 stays in (cc s.0, s.1)

  pub body_made : IsMadeOf first (drop was.body text)
      (map (λ (t : Token). t.len) (tokens_by first (drop was.body text))) (change kept) put (drop now.body made)
  body_made = made_body law e was.body now.body (boundary_of was_is) (boundary_of now_is) kept same_start

  -- Returns how far the change of the body extends after the edit.
  abbrev more : Bool → ℕ
  more true = 0
  more false = max (was.body - edit.old_end) (now.body - edit.new_end)

  abbrev IsPast : Bool → Type 0
  IsPast stays = IsMore old new edit.old_end edit.new_end (more stays) (change stays).old_end (change stays).new_end

  is_past : (stays : Bool) → (stays ≡ true → (was.body ≡ now.body) × (was.body ≤ edit.start)) → IsPast stays
  is_past stays w1 =
      grind (arith, common_steps, body_at was_is first, body_at now_is first, le-max_left, le-max_right, max-le, edited e)

  abbrev InBody : Bool → Relexed → Type 0
  InBody stays x = IsRelexedTo (fragment_by first (drop was.body text)) (fragment_by first (drop now.body made))
      (drop was.body text) (change stays).start
      (change stays).old_end (change stays).new_end x

  abbrev all_of : Bool → Relexed → Relexed
  all_of stays x = counted stays (length (tokens_of_head was)) (length (tokens_of_head now)) x

  module _ (stays : Bool) (p : IsPast stays) (x : Relexed) (is_body : InBody stays x)
      (sum : (all_of stays x).kept_front + (all_of stays x).lexed ≡ length new.head + (x.kept_front + x.lexed)) where
    meeting : IsMeeting old new edit.old_end edit.new_end ((all_of stays x).kept_front + (all_of stays x).lexed)
        x.kept_back
    meeting = rw sum (meets p _ _ is_body.meeting)

    none_before : (number back : ℕ) → (length new.head ≤ number → x.kept_front ≤ number - length new.head)
        → number < (all_of stays x).kept_front + (all_of stays x).lexed
        → IsMeeting old new edit.old_end edit.new_end number back → ⊥
    none_before number back near less m =
        is_body.none_before (number - length new.head) back (near m.past_head) (omega (arith, sum, m.past_head, less))
        (meets_behind p number back m)

  relexed_to : (stays : Bool) → kept ≡ stays → IsPast stays → (x : Relexed) → InBody stays x
      → IsRelexedTo old new text edit.start edit.old_end edit.new_end (all_of stays x)
  relexed_to true same p x is_body =
      let k = (head_stays was_is now_is first edit.start refl refl).1 (decided.0 same) in
      let begin : was.body + 0 ≡ body_in old = omega (arith, body_at was_is first) in
      let ends = rw begin at (fronts text was.body 0 edit.start old.body) in
      let heads : length old.head ≡ length new.head = ap length k.2 in
      record {
        kept = λ again. omega (arith, is_body.kept (omega arith, refl, refl), ends);
        changed = λ none. absurd (none k);
        meeting = meeting true p x is_body (omega arith);
        none_before = λ number back near less m. none_before true p x is_body (omega arith) number back
            (λ head. omega (arith, near, heads)) less m;
      }
  relexed_to false same p x is_body =
      let none : x.kept_front ≡ 0 =
      omega (arith, is_body.kept (omega arith, refl, refl), kept_none (drop was.body text) old.body) in
      record {
        kept = λ k. let hit = decided.1 ((head_stays was_is now_is first edit.start refl refl).0 k) in absurd (cc);
        changed = λ gone. none;
        meeting = meeting false p x is_body (omega arith);
        none_before = λ number back near less m. none_before false p x is_body (omega arith) number back
            (λ head. omega (arith, none)) less m;
      }

  abbrev Found : Relexed → Type 0
  Found x = IsRelexed (fragment_by first) (drop was.body text) (change kept).start (change kept).old_end put x

  as_body : (x : Relexed) → Found x → InBody kept x
  as_body x = (counts_of (fragment_by first) body_made.edit_of x).0

  -- The counts of the body determine the counts of all tokens.
  pub relexed_as : (x : Relexed) → Found x → IsRelexed (layout first) text edit.start edit.old_end insert
      (all_of kept x)
  relexed_as x found =
      (counts_of (layout first) e (all_of kept x)).1 (rw (was_is.layout_is first, now_is.layout_is first)
      (relexed_to kept refl (is_past kept same_start) x (as_body x found)))

  -- The tokens of a new head take no steps.
  pub steps_by : (x : Relexed) → Found x → length (layout first made).head - (all_of kept x).kept_front + x.lexed ≡
      (all_of kept x).lexed
  steps_by x found = omega (arith, heads_are now_is first, by_kept kept refl (as_body x found))
    where
      by_kept : (stays : Bool) → kept ≡ stays → InBody stays x
          → length (tokens_of_head now) - (all_of stays x).kept_front + x.lexed ≡ (all_of stays x).lexed
      by_kept true same is_body = rw (decided.0 same).0 (omega arith)
      by_kept false same is_body =
          omega (arith, is_body.kept (omega arith, refl, refl), kept_none (drop was.body text) old.body)

  -- A failed edit takes at most as many steps as if it had succeeded.
  pub few_by : (before after : ℕ) → ((x : Relexed) → Found x → after ≤ before + x.lexed)
      → TakesFew (layout first) text edit.start edit.old_end insert before after
  few_by before after few =
      let counts = relexed_is law body_made.edit_of in
      let found = (counts_of (fragment_by first) body_made.edit_of counts.0).1 counts.1 in (
        all_of kept counts.0,
        relexed_as counts.0 found,
        rw (sym e.made) (omega (arith, few counts.0 found, steps_by counts.0 found)),
      )

-- ---- a document

pub body_is : {first : List ℕ → Token} (law : IsGrammar first) (before insert text : List ℕ) (edit : Change)
    (old now : Head) (kept : Bool) (change : Change)
    → IsEditOf before edit insert text → IsHeadOf before old → IsHeadOf text now
    → IsTrue kept ↔ ((old ≡ now) × (old.body ≤ edit.start)) → change ≡ body_change kept old.body now.body edit
    → IsBodyChange first before edit insert text kept change
body_is {first} law before insert text edit old now kept change e old_head now_head decided change_is =
    rw change_is record {
      keeps = (λ k. stays.1 (decided.0 k), λ s. decided.1 (stays.0 s));
      put = inserted;
      made_of = rw (← old_head.end_is, ← now_head.end_is) (body_made law e old_is now_is decided);
      counts_kept = counts true;
      counts_new = counts false;
    }
  where
    old_is : IsHeadIn document_by before old
    old_is = whole_head before e.is_text old old_head

    now_is : IsHeadIn document_by text now
    now_is = whole_head text (edited e).text_is now now_head

    stays : KeepsHead (document_by first before) (document_by first text) edit.start ↔ ((old ≡ now) × (old.body ≤ edit.start))
    stays = head_stays old_is now_is first edit.start (old_is.layout_is first) (now_is.layout_is first)

    ch : Change
    ch = body_change kept old.body now.body edit

    inserted : List ℕ
    inserted = body_insert kept ch insert (drop now.body text)

    counts : (k : Bool) → kept ≡ k → (r : Relexed)
        → IsRelexed (fragment_by first) (drop (body_start before) before) ch.start ch.old_end inserted r
        → IsRelexed (document_by first) before edit.start edit.old_end insert
        (counted k (length (head_tokens before)) (length (head_tokens text)) r)
    counts k same r x =
        rw (← same, ← ap length old_head.tokens_are, ← ap length now_head.tokens_are)
        (relexed_as law e old_is now_is decided r (rw (← old_head.end_is) at x))

-- The change of the body has these offsets.
pub in_body : (kept : Bool) (from to : ℕ) (edit : Change)
    → (kept ≡ true → (from ≤ edit.start) × (edit.start ≤ edit.old_end) × (edit.start ≤ edit.new_end))
    → IsInBody kept from to edit (body_change kept from to edit)
in_body true from to edit order = let o = order refl in grind (arith, common_steps, o.0, o.1, o.2)
in_body false from to edit order = (
  max (from - edit.old_end) (to - edit.new_end),
  refl,
  omega arith,
  omega arith,
  λ n old new. omega (arith, old, new),
)
