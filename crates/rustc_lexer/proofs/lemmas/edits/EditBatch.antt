-- Edits that are applied at once: one more edit in the list.
use Rattle.std.proofs.Common.{◌≡◌, ◌↔◌, ℕ, zero, suc, ◌+◌, ◌-◌, ◌^◌, ◌<◌, ◌≤◌, min, List, [], ◌∷◌, ◌++◌, length, take}
use Rattle.std.proofs.Common.{drop, reverse, get_or, refl, sym, ap, ◌∙◌, arith, IsUtf8, IsCharBoundary}
use Rattle.std.proofs.Common.{append_assoc, length-append, length-drop, length-take-le, take-take}
use Rattle.std.proofs.lemmas.List.{append-nil, reverse-append, take-append-drop, take-append-le}
use Rattle.std.proofs.Math.Seq.{drop-append_seam, take-add}
use Rattle.std.proofs.lemmas.Str.{IsCharBoundary-start, IsUtf8-append, IsUtf8-between, IsUtf8-past_char, IsUtf8-take}
use Rattle.std.proofs.{Math.Utf8.{encode, encodes}, lemmas.Grind.{common_steps}}
use Rattle.rustc_lexer.specs.declared.relex.edit.Edit.{Edit}
use Rattle.rustc_lexer.specs.Edits.{IsBatch, AreInOrder, IsInside, apply, apply_list, start_of_first, stop_of_last}
use Rattle.rustc_lexer.specs.Edits.{batch_insert}
use Rattle.rustc_lexer.specs.declared.{relex.checkpoints.Checkpoints.{Checkpoints}, head.Head.{Head}}
use Rattle.rustc_lexer.specs.{declared.relex.change.Change.{Change}, Token, Classes.{IsText}, Partition.{Layout}}
use Rattle.rustc_lexer.specs.model.Document.{AreKeptOf, IsPut, edit_change}
use Rattle.rustc_lexer.proofs.lemmas.edits.{EditSequence.{apply-last, none}, DocumentEdits.{put_by}}

pub order-last : (text : List ℕ) (from : ℕ) (es : List Edit) (e : Edit)
    → AreInOrder text from (es ++ e ∷ [])
    ↔ (AreInOrder text from es × (stop_of_last from es ≤ e.start) × IsInside text e.start e.stop)
order-last text from [] e = (λ are. (tt, are.0, are.1), λ is. (is.1, is.2, tt))
order-last text from (f ∷ es) e =
    let rest = order-last text f.stop es e in (
      λ are. ((are.0, are.1, (rest.0 are.2).0), (rest.0 are.2).1, (rest.0 are.2).2),
      λ is. (is.0.0, is.0.1, rest.1 (is.0.2, is.1, is.2)),
    )

pub stop-last : (from : ℕ) (es : List Edit) (e : Edit) → stop_of_last from (es ++ e ∷ []) ≡ e.stop
stop-last from [] e = refl
stop-last from (f ∷ es) e = stop-last f.stop es e

pub some_are : (es : List Edit) → (es ≡ [] → ⊥) → 0 < length es
some_are es w1 = grind (arith, common_steps)

pub first_start : (es : List Edit) → (es ≡ [] → ⊥) → (get_or es 0 none).start ≡ start_of_first es
first_start es w1 = grind (arith, common_steps)

all-last : (text : List ℕ) (from : ℕ) (es : List Edit) (e : Edit)
    → batch_insert text from (es ++ e ∷ []) ≡
    batch_insert text from es
    ++ (take (e.start - stop_of_last from es) (drop (stop_of_last from es) text) ++ e.insert.now)
all-last text from [] e = grind (arith, common_steps, append-nil)
all-last text from (f ∷ es) e = grind (arith, common_steps, all-last text f.stop es e, append_assoc)

-- One more edit: the text up to its end is UTF-8, and its length saturates at the maximum.
pub made-last : (text : List ℕ) (es : List Edit) (e : Edit) (last len next : ℕ) → IsUtf8 text
    → IsUtf8 (batch_insert text 0 es) → last ≡ stop_of_last 0 es
    → IsCharBoundary text last
    → len ≡ min (2 ^ 64 - 1) (length (batch_insert text 0 es)) → last ≤ e.start → IsInside text e.start e.stop
    → IsUtf8 e.insert.now
    → next ≡ min (2 ^ 64 - 1) (len + (e.start - last) + length e.insert.now)
    → IsUtf8 (batch_insert text 0 (es ++ e ∷ [])) × (next ≡ min (2 ^ 64 - 1) (length (batch_insert text 0 (es ++ e ∷ []))))
made-last text es e last len next is are last_is boundary len_is after inside insert next_is =
    let between : List ℕ = take (e.start - last) (drop last text) in
    let more : batch_insert text 0 (es ++ e ∷ []) ≡ batch_insert text 0 es ++ (between ++ e.insert.now) =
    rw last_is (all-last text 0 es e) in
    let size : length between ≡ e.start - last = length-take-le _ _ (omega (arith, length-drop last text)) in (
      rw more (IsUtf8-append _ _ are
          (IsUtf8-append _ _ (IsUtf8-between text last e.start is after boundary inside.start_boundary) insert)),
      omega (arith, simp length-append at (ap length more)),
    )

pub order-take : (text : List ℕ) (from : ℕ) (es : List Edit) (n : ℕ) → AreInOrder text from es
    → AreInOrder text from (take n es)
order-take text from es zero are = tt
order-take text from [] (suc n) are = tt
order-take text from (e ∷ es) (suc n) are = (are.0, are.1, order-take text e.stop es n are.2)

-- The end of the last edit is in bounds, on a char boundary, and at or after `from`.
order_end : (text : List ℕ) (from : ℕ) (es : List Edit) → AreInOrder text from es → from ≤ length text
    → IsCharBoundary text from
    → (from ≤ stop_of_last from es) × (stop_of_last from es ≤ length text) × IsCharBoundary text (stop_of_last from es)
order_end text from [] are few boundary = (omega arith, few, boundary)
order_end text from (e ∷ es) are few boundary =
    grind (arith, common_steps, order_end text e.stop es are.2 are.1.stop_inside are.1.stop_boundary)

order_inside : (text : List ℕ) (es : List Edit) → (es ≡ [] → ⊥) → AreInOrder text 0 es
    → IsInside text (start_of_first es) (stop_of_last 0 es)
order_inside text [] some are = absurd (some refl)
order_inside text (e ∷ es) some are =
    grind (arith, common_steps, order_end text e.stop es are.2 are.1.stop_inside are.1.stop_boundary)

-- An edit before a rest gives the text before the edit, then the inserted text, then the rest.
put_before : (text rest : List ℕ) (from : ℕ) (e : Edit) → from ≤ e.start → IsInside text e.start e.stop
    → apply (take e.stop text ++ rest) e.start e.stop e.insert.now ≡
    take from text ++ (take (e.start - from) (drop from text) ++ (e.insert.now ++ rest))
unfolding apply
put_before text rest from e after inside =
    let size : length (take e.stop text) ≡ e.stop = length-take-le e.stop text inside.stop_inside in
    let there : from + (e.start - from) ≡ e.start = omega arith in
    cc (
      take-append-le e.start (take e.stop text) rest (omega arith),
      take-take e.start e.stop text inside.start_le_stop,
      drop-append_seam (take e.stop text) rest,
      take-add from (e.start - from) text,
      append_assoc (take from text) (take (e.start - from) (drop from text)) (e.insert.now ++ rest),
    )

-- Applied one after another, from the last to the first, the edits give the same text.
backwards : (text : List ℕ) (from : ℕ) (es : List Edit) → AreInOrder text from es → from ≤ length text
    → apply_list text (reverse es) ≡ take from text ++ (batch_insert text from es ++ drop (stop_of_last from es) text)
backwards text from [] are few = sym (take-append-drop from text)
backwards text from (e ∷ es) are few =
    grind (
      arith,
      common_steps,
      reverse-append,
      apply-last,
      put_before,
      append_assoc,
      backwards text e.stop es are.2 are.1.stop_inside,
    )

pub none_by_one : (text : List ℕ) (es : List Edit) → length es ≡ 0 → text ≡ apply_list text (reverse es)
none_by_one text es w2 = grind (arith, common_steps)

-- The rest of a text after some characters is UTF-8.
rest_encoded : (cs ys : List ℕ) → IsUtf8 (encodes cs ++ ys) → IsUtf8 ys
rest_encoded [] ys is = is
rest_encoded (c ∷ cs) ys is =
    rest_encoded cs ys
    (IsUtf8-past_char (encodes (c ∷ cs) ++ ys) (encodes cs ++ ys) c is (append_assoc (encode c) (encodes cs) ys))

module _ (text : List ℕ) (es : List Edit) (some : es ≡ [] → ⊥) where
  abbrev insert : List ℕ
  insert = batch_insert text (start_of_first es) es

  -- The result starts with the text before the first edit.
  from_first : batch_insert text 0 es ≡ take (start_of_first es) text ++ insert
  from_first = grind (arith, common_steps)

  applied_is : batch_insert text 0 es ++ drop (stop_of_last 0 es) text ≡
      apply text (start_of_first es) (stop_of_last 0 es) insert
  unfolding apply
  applied_is = grind (arith, common_steps, from_first, append_assoc)

  pub one_by_one : AreInOrder text 0 es → apply text (start_of_first es) (stop_of_last 0 es) insert ≡
      apply_list text (reverse es)
  one_by_one are = cc (applied_is, backwards text 0 es are (omega arith))

  pub insert_utf8 : IsUtf8 text → AreInOrder text 0 es → IsUtf8 (batch_insert text 0 es) → IsUtf8 insert
  insert_utf8 is are all =
      let front = IsUtf8-take text (start_of_first es) is (order_inside text es some are).start_boundary in
      rest_encoded front.0 insert (rw (front.1.1, ← from_first) all)

  -- The inserted text ends at the start of the first edit plus its length.
  pub insert_end : AreInOrder text 0 es → length (batch_insert text 0 es) ≡ start_of_first es + length insert
  insert_end are = grind (arith, common_steps, order_inside, from_first, length-append, length-take-le)

  pub at_once_valid : AreInOrder text 0 es → length (batch_insert text 0 es) + (length text - stop_of_last 0 es) < 2 ^ 32
      → IsBatch text es
  at_once_valid are short = grind (arith, common_steps, order_inside, insert_end)

  pub at_once_short : IsBatch text es → length (batch_insert text 0 es) + (length text - stop_of_last 0 es) < 2 ^ 32
  at_once_short are = omega (arith, insert_end are.0)

pub at_once_none : (text : List ℕ) (es : List Edit) → length es ≡ 0 → IsText text → IsBatch text es
at_once_none text [] none is = grind (arith, common_steps, IsCharBoundary-start)
at_once_none text (e ∷ es) none is = absurd (omega arith)

-- Applying all edits is the same as applying the one edit that is equivalent to them.
pub put_at_once : {layout : (List ℕ → Token) → List ℕ → Layout} {first : List ℕ → Token} {before made : List ℕ}
    (es : List Edit) {edit : Change} {tokens : List Token} {head : Head} {checkpoints : Checkpoints}
    → (es ≡ [] → ⊥) → AreKeptOf layout first before tokens head checkpoints
    → IsUtf8 (batch_insert before (start_of_first es) es) → IsBatch before es
    → edit ≡ edit_change (start_of_first es) (stop_of_last 0 es) (batch_insert before (start_of_first es) es)
    → made ≡ batch_insert before 0 es ++ drop (stop_of_last 0 es) before
    → IsPut layout first before (batch_insert before (start_of_first es) es) edit made tokens head checkpoints
put_at_once {before = before} es some kept utf8 valid edit_is made_is =
    rw edit_is (put_by kept utf8 valid.1 (made_is ∙ applied_is before es some) refl)
