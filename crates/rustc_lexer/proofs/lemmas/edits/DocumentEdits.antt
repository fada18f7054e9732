-- An edit of a lexed text: the tokens that replace its old tokens.
use Rattle.std.proofs.Common.{◌≡◌, ◌↔◌, ℕ, ◌+◌, ◌-◌, ◌<◌, ◌≤◌, ◌^◌, Bool, true, false, if◌then◌else◌, IsTrue, List}
use Rattle.std.proofs.Common.{◌++◌, length, map, take, drop, refl, sym, ap, ◌∙◌, arith, length-append}
use Rattle.std.proofs.Common.{length-drop, rules, Result, Ok, Err, ◌&&◌, nat_le, IsUtf8}
use Rattle.std.specs.List.{All, Contains}
use Rattle.std.proofs.lemmas.List.{take_rest, Elements.{All-contains}}
use Rattle.std.proofs.Math.Seq.{drop-append_seam, drop-append-add, take-append_seam, take-append-add}
use Rattle.std.proofs.lemmas.Grind.{common_steps}
use Rattle.rustc_lexer.specs.declared.relex.{checkpoints.Checkpoints.{Checkpoints}, boundary.TokenStart.{TokenStart}}
use Rattle.rustc_lexer.specs.declared.head.Head.{Head}
use Rattle.rustc_lexer.specs.{declared.relex.{change.Change.Change, counts.Relexed.Relexed, relexer.RelexState.RelexState}, Token}
use Rattle.rustc_lexer.specs.model.Document.{body_change, body_insert, counted, IsHeadIn, IsPut, tokens_of_head}
use Rattle.rustc_lexer.specs.model.Document.{AreKeptOf, TakesFew, edit_change, text_left}
use Rattle.rustc_lexer.specs.Partition.{Layout, tokens_in}
use Rattle.rustc_lexer.specs.LexedText.{AreKept, LexedModel, HasStepCount, IsEdited, layout_in}
use Rattle.rustc_lexer.specs.{Offsets.{IsBound}, Relexer.{IsMadeOf, known, IsEditOf}, Locality.{IsGrammar}}
use Rattle.rustc_lexer.specs.{Tokens.{tokens_by}, model.Checkpoints.{IsMovable, IsReplaced, end_of}}
use Rattle.rustc_lexer.specs.model.Relexer.{IsLexed}
use Rattle.rustc_lexer.proofs.lemmas.edits.{Bounds.{tokens_le_bytes}, Checkpoints.{movable_for}, FrontAndBack.{edited}}
use Rattle.rustc_lexer.proofs.lemmas.edits.{Heads.{all_are, head_in}, KeptFront.{kept_none}}
use Rattle.rustc_lexer.proofs.lemmas.edits.{UnderWay.{kept_old, lexed_whole, rest_met}, WholeEdits.{body_made, few_by}}
use Rattle.std.specs.Result.{IsErr}
use Rattle.rustc_lexer.specs.{Classes.{IsText}, Edits.{apply, IsEdit}, laws.Same.{decided_head, is_same_head}}

module _ {layout : (List ℕ → Token) → List ℕ → Layout} {first : List ℕ → Token} (law : IsGrammar first)
    {before insert made : List ℕ} {tokens : List Token}
    {old : Head} {checkpoints : Checkpoints} {edit : Change}
    (p : IsPut layout first before insert edit made tokens old checkpoints) where
  abbrev n : ℕ
  n = length (tokens_of_head old)

  abbrev behind : List Token
  behind = tokens_by first (drop old.body before)

  all : tokens ≡ tokens_of_head old ++ behind
  all = p.kept.1 ∙ all_are p.kept.2 first

  pub old_front : take n tokens ≡ tokens_of_head old
  old_front = rw all (take-append_seam (tokens_of_head old) behind)

  pub old_behind : drop n tokens ≡ behind
  old_behind = rw all (drop-append_seam (tokens_of_head old) behind)

  -- A checkpoint is a boundary of the body's tokens.
  pub near_behind : {near : TokenStart} → Contains checkpoints.bounds near → IsBound behind near
  near_behind is = grind (arith, common_steps, All-contains, p.kept.4, old_behind)

  module _ {now : Head} (now_is : IsHeadIn layout made now) {kept : Bool}
      (decided : IsTrue kept ↔ ((old ≡ now) × (old.body ≤ edit.start))) where
    abbrev change : Change
    change = body_change kept old.body now.body edit

    abbrev body : List ℕ
    body = drop now.body made

    pub made_here : IsMadeOf first (drop old.body before) (map (λ (t : Token). t.len) behind) change
        (body_insert kept change insert body) body
    made_here = body_made law p.edit_of p.kept.2 now_is decided

    -- The new list of tokens: the lexed tokens replace the old ones.
    module _ {lexed : List Token} {at : RelexState} (l : IsLexed first (drop old.body before) change body lexed at)
        {new : List Token}
        (put : new ≡ (if kept then take n tokens else tokens_of_head now)
        ++ (take at.front.index (drop n tokens) ++ (lexed ++ drop at.back.index (drop n tokens))))
      where
        abbrev fresh : List Token
        fresh = tokens_by first body

        new_is : new ≡ tokens_of_head now ++ fresh
        new_is = cc (front kept refl, old_behind, lexed_whole law made_here l)
          where
            front : (stays : Bool) → kept ≡ stays → (if stays then take n tokens else tokens_of_head now) ≡
                tokens_of_head now
            front true same = old_front ∙ ap tokens_of_head (decided.0 same).0
            front false same = refl

        -- They are the tokens of the changed document.
        pub new_are : new ≡ tokens_in (layout first made)
        new_are = new_is ∙ sym (all_are now_is first)

        pub new_behind : drop (length (tokens_of_head now)) new ≡ fresh
        new_behind = rw new_is (drop-append_seam (tokens_of_head now) fresh)

        front_kept : take at.front.index fresh ≡ take at.front.index behind
        front_kept = sym (kept_old law made_here at.front.index l.under_way.front).0

        rest : drop (known at) fresh ≡ drop at.back.index behind
        rest = rest_met law made_here l.under_way l.met

        -- The checkpoints can be moved, and are still checkpoints.
        pub bounds_move : All (IsMovable at.back (end_of at)) checkpoints.bounds
            × IsReplaced behind fresh at.front at.back (end_of at)
        bounds_move =
            let replaced : IsReplaced behind fresh at.front at.back (end_of at) = record {
              kept_bound = l.under_way.front_bound;
              met_bound = l.under_way.back_bound;
              now_bound = (l.under_way.inside, l.under_way.offset);
              kept_le = omega arith;
              front = front_kept;
              back = rest;
            } in
            let movable = movable_for law made_here.edit_of.is_text (edited made_here.edit_of).text_is checkpoints refl
            refl replaced in
            (movable (rw old_behind at p.kept.4), replaced)

        abbrev counts : Relexed
        counts = record { kept_front = at.front.index; lexed = at.lexed; kept_back = length behind - at.back.index }

        sizes : (at.front.index + at.lexed + (length behind - at.back.index) ≡ length fresh)
            × (at.back.index ≤ length behind)
            × (length new ≡ length (tokens_of_head now) + length fresh) × (length tokens ≡ n + length behind)
        sizes = (
          omega (
            arith,
            ap length rest,
            length-drop (known at) fresh,
            length-drop at.back.index behind,
            l.under_way.inside,
          ),
          l.under_way.back_bound.0,
          rw new_is (length-append (tokens_of_head now) fresh),
          rw all (length-append (tokens_of_head old) behind),
        )

        back_with : (k back : ℕ) → k ≡ length (tokens_of_head now) + known at → back ≡ n + at.back.index
            → drop k new ≡ drop back tokens
        back_with k back e f =
            cc (
              new_is,
              drop-append-add (tokens_of_head now) fresh (known at),
              rest,
              all,
              drop-append-add (tokens_of_head old) behind at.back.index,
            )

        -- The counts are the counts of all tokens, with the head.
        pub counted_are : AreKept tokens new (counted kept n (length (tokens_of_head now)) counts)
        counted_are = by_kept kept refl
          where
            by_kept : (stays : Bool) → kept ≡ stays
                → AreKept tokens new (counted stays n (length (tokens_of_head now)) counts)
            by_kept true same =
                let heads = ap tokens_of_head (decided.0 same).0 in
                let many : n ≡ length (tokens_of_head now) = ap length heads in
                record {
                  all = omega (arith, sizes.0, sizes.2, many);
                  front = rw (new_is, all, ← heads, take-append-add, take-append-add, front_kept);
                  back = back_with _ _ (omega (arith, many)) (omega (arith, sizes.1, sizes.3));
                }
            by_kept false same =
                let none : at.front.index ≡ 0 = rw same at l.under_way.front
                ∙ kept_none (drop old.body before) behind in
                record {
                  all = omega (arith, sizes.0, sizes.2);
                  front = rw none;
                  back = back_with _ _ (omega arith) (omega (arith, sizes.1, sizes.3));
                }

        pub counted_few : at.front.index < 2 ^ 33
        counted_few =
            let is = made_here.edit_of.is_text in omega (arith, l.under_way.front_bound.0, tokens_le_bytes law _ is)

-- The body is the result of its change, in terms of the variables of the code.
pub made_read : {layout : (List ℕ → Token) → List ℕ → Layout} {first : List ℕ → Token}
    (law : IsGrammar first) {before insert made read body : List ℕ} {tokens slice : List Token} {old now : Head}
    {checkpoints : Checkpoints}
    {edit change : Change} {kept : Bool} {n : ℕ} (p : IsPut layout first before insert edit made tokens old checkpoints)
    → read ≡ made → IsHeadIn layout read now → IsTrue kept ↔ ((old ≡ now) × (old.body ≤ edit.start))
    → n ≡ length (tokens_of_head old)
    → body ≡ drop now.body read → change ≡ body_change kept old.body now.body edit → slice ≡ tokens
    → IsMadeOf first (drop old.body before) (map (λ (t : Token). t.len) (take (length slice - n) (drop n slice))) change
    (body_insert kept change insert body) body
made_read law {slice = slice} {n = n} p read_is now_is decided n_is body_is change_is slice_is =
    rw (take_rest slice n, slice_is, n_is, old_behind law p, change_is, body_is, read_is)
    (made_here law p (rw read_is at now_is) decided)

-- ---- an edit of a lexed text

-- The test decides whether the head is kept.
stays_by : (old now : Head) (start : ℕ) (same : Bool) → IsTrue same ↔ (old ≡ now)
    → IsTrue (nat_le old.body start && same) ↔ ((old ≡ now) × (old.body ≤ start))
stays_by old now start same tells = grind (arith, common_steps, tells)

-- A step count that did not grow meets the bound for every edit.
pub few_none : {first : List ℕ → Token} (law : IsGrammar first) (whole : Bool) (text insert : List ℕ)
    (start stop before : ℕ)
    → IsText text → IsUtf8 insert → IsEdit text start stop insert
    → TakesFew (layout_in whole first) text start stop insert before before
few_none law whole text insert start stop before is its edit =
    let e : IsEditOf text (edit_change start stop insert) insert (apply text start stop insert) =
    record { is_text = is; inserted = its; is_edit = edit; made = refl; new_end = refl } in
    let old = head_in whole text is in
    let now = head_in whole (apply text start stop insert) (edited e).text_is in
    few_by law e old.1 now.1 (stays_by old.0 now.0 start (is_same_head old.0 now.0) (decided_head _ old.0 now.0 refl))
    before before (λ x counts. omega arith)

-- The new text is the result of an edit of the lexed text.
pub put_by : {layout : (List ℕ → Token) → List ℕ → Layout} {first : List ℕ → Token}
    {before insert made reserved : List ℕ} {start stop : ℕ} {tokens : List Token} {head : Head}
    {checkpoints : Checkpoints}
    → AreKeptOf layout first before tokens head checkpoints → IsUtf8 insert → IsEdit before start stop insert
    → made ≡ apply reserved start stop insert → reserved ≡ before
    → IsPut layout first before insert (edit_change start stop insert) made tokens head checkpoints
put_by {insert = insert} {start = start} {stop = stop} kept utf8 valid made_is reserved_is = record {
  kept = kept;
  edit_of = record {
    is_text = kept.0;
    inserted = utf8;
    is_edit = valid;
    made = rw reserved_is at made_is;
    new_end = refl;
  };
}

pub left_back : {R E : Type 0} (r : Result R E) (made before : List ℕ) → IsErr r → text_left r made before ≡ before
left_back (Ok x) made before err = absurd (cc)
left_back (Err e) made before err = refl

-- A failed edit restores the text and changes nothing else.
pub refused : {S E : Type 0} {layout : List ℕ → Layout} {text left insert : List ℕ} {start stop : ℕ}
    {tokens now : List Token} {stepper later : S} (r : Result Relexed E)
    → IsErr r → tokens ≡ tokens_in (layout text) → left ≡ text → now ≡ tokens
    → IsEdited layout (record { text = text; tokens = tokens; stepper = stepper }) start stop insert r
    (record { text = left; tokens = now; stepper = later })
refused (Ok x) err scratch left_is now_is = absurd (cc)
refused {layout = layout} (Err e) err scratch left_is now_is = record {
  text = search rules;
  from_scratch = cc;
  relexed = search rules;
  kept = search rules;
  same_text = left_is;
  same_tokens = now_is;
}

pub counted_refused : {E : Type 0} {layout : List ℕ → Layout} {text insert : List ℕ} {start stop before after : ℕ}
    (r : Result Relexed E)
    → IsErr r → before ≤ after → TakesFew layout text start stop insert before after
    → HasStepCount layout text start stop insert r before after
counted_refused (Ok x) err rose few = absurd (cc)
counted_refused (Err e) err rose few = record { count = search rules; rose = rose; few = few }

-- The type of the error does not matter for a successful edit.
pub made_as : {S A B : Type 0} {layout : List ℕ → Layout} {old new : LexedModel S} {start stop : ℕ} {insert : List ℕ}
    {r : Relexed}
    → IsEdited {E = A} layout old start stop insert (Ok r) new
    → IsEdited {E = B} layout old start stop insert (Ok r) new
made_as is = record {
  text = is.text;
  from_scratch = is.from_scratch;
  relexed = is.relexed;
  kept = is.kept;
  same_text = search rules;
  same_tokens = search rules;
}

pub counted_as : {A B : Type 0} {layout : List ℕ → Layout} {text insert : List ℕ} {start stop before after : ℕ}
    {r : Relexed}
    → HasStepCount {E = A} layout text start stop insert (Ok r) before after
    → HasStepCount {E = B} layout text start stop insert (Ok r) before after
counted_as is = record { count = is.count; rose = is.rose; few = search rules }
