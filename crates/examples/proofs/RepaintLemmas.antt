-- The shown pieces of a text after an edit.
use Rattle.std.proofs.Common.{◌≡◌, ℕ, zero, suc, ◌+◌, ◌-◌, ◌<◌, ◌≤◌, true, List, [], ◌∷◌, ◌++◌, length, map, take, drop}
use Rattle.std.proofs.Common.{refl, sym, ap, ◌∙◌, arith, drop-drop, take-take, take-append-drop, length-take-le}
use Rattle.std.proofs.Common.{IsUtf8, Result, Ok, Err, IfOk, OnOk}
use Rattle.std.proofs.lemmas.{Grind.{common_steps}, List.{drop-take}}
use Rattle.rustc_lexer.specs.declared.{relex.{change.Change.{Change}, counts.Relexed.{Relexed}}, token.Token.{Token}}
use Rattle.rustc_lexer.specs.{Tokens.{bound, tokens_by}, Edits.{IsEdit, IsMeeting, IsRelexed, apply, fragment_by}}
use Rattle.rustc_lexer.specs.{LexedText.{PieceModel, pieces_from}, Relexer.{IsEditOf}, model.Relexer.{kept_front}}
use Rattle.rustc_lexer.specs.{Locality.{has_two, IsGrammar}, Classes.{IsText}}
use Rattle.rustc_lexer.proofs.lemmas.edits.FrontAndBack.{edited, has_two-before, bound-take, met_rest, same_rest}
use Rattle.rustc_lexer.proofs.lemmas.edits.{Bounds.{cuts}, KeptFront.{kept_few, kept_tells}}
use Rattle.rustc_lexer.proofs.lemmas.edits.{OneAnswer.{front_same}, Pieces.{drop-pieces, length-pieces, take-pieces}}
use Rattle.examples.specs.Repaint.{changed, moved, shown_after}

-- ---- the pieces of two texts

-- Pieces that end before an offset are the same in the text up to that offset.
pieces-within : (text : List ℕ) (whole start : ℕ) (ts : List Token) → start + bound ts (length ts) ≤ whole
    → pieces_from (take whole text) start ts ≡ pieces_from text start ts
pieces-within text whole start [] few = refl
pieces-within text whole start (t ∷ ts) few =
    let own : take t.len (drop start (take whole text)) ≡ take t.len (drop start text) =
    sym (drop-take start t.len (take whole text))
    ∙ (ap (drop start) (take-take (start + t.len) whole text (omega arith)) ∙ drop-take start t.len text) in
    rw (own, pieces-within text whole (start + t.len) ts (omega arith)) refl

-- If the rest of a text moves to another offset, its pieces move with it.
pieces-moved : (added removed : ℕ) (text other : List ℕ) (from to : ℕ) (ts : List Token)
    → drop from text ≡ drop to other → to ≡ from + added - removed → removed ≤ from + added
    → pieces_from other to ts ≡ map (moved added removed) (pieces_from text from ts)
pieces-moved added removed text other from to [] same at fits = refl
pieces-moved added removed text other from to (t ∷ ts) same at fits =
    let next : drop (from + t.len) text ≡ drop (to + t.len) other = sym (drop-drop t.len from text)
    ∙ (ap (drop t.len) same ∙ drop-drop t.len to other) in
    cc (pieces-moved added removed text other (from + t.len) (to + t.len) ts next (omega arith) (omega arith))

-- A list consists of its first k elements, the next n elements, and the rest.
in_three : (k n : ℕ) (ps : List PieceModel) → ps ≡ take k ps ++ (take n (drop k ps) ++ drop (k + n) ps)
in_three k n ps = cc (take-append-drop k ps, take-append-drop n (drop k ps), drop-drop n k ps)

kept_before : (text : List ℕ) (start : ℕ) (ts : List Token) (k : ℕ) → (0 < k → has_two text (bound ts k) start ≡ true)
    → bound ts k ≤ start
kept_before text start ts zero two = omega arith
kept_before text start ts (suc k) two = omega (arith, has_two-before text (bound ts (suc k)) start (two (omega arith)))

-- ---- an edit

module _ {first : List ℕ → Token} (law : IsGrammar first) (text : List ℕ) (is : IsText text) (start stop : ℕ)
    (insert : List ℕ) (its : IsUtf8 insert) (edit : IsEdit text start stop insert) where
  abbrev new_text : List ℕ
  new_text = apply text start stop insert

  abbrev old : List Token
  old = tokens_by first text

  abbrev new : List Token
  new = tokens_by first new_text

  abbrev kept : ℕ
  kept = kept_front text old start

  abbrev change : Change
  change = record { start = start; old_end = stop; new_end = start + length insert }

  of_edit : IsEditOf text change insert new_text
  of_edit = record { is_text = is; inserted = its; is_edit = edit; made = refl; new_end = refl }

  few : kept ≤ length old
  few = kept_few text old start is.utf8 (cuts law text is)

  abbrev shown : List PieceModel
  shown = pieces_from text 0 old

  abbrev to_show : List PieceModel
  to_show = pieces_from new_text 0 new

  front_shown : take kept to_show ≡ take kept shown
  front_shown =
      let two = (kept_tells text old start is.utf8 (cuts law text is) kept few).1 (omega arith) in
      let long : length (take kept old) ≡ kept = length-take-le kept old few in
      let end : bound (take kept old) (length (take kept old)) ≡ bound old kept = rw long (bound-take kept old) in
      let early : bound old kept ≤ start = kept_before text start old kept two in
      let front = (edited of_edit).front in
      cc (
        take-pieces new_text 0 kept new,
        front_same law of_edit,
        pieces-within new_text start 0 (take kept old)
            (omega (arith, end)),
        front,
        pieces-within text start 0 (take kept old) (omega (arith, end)),
        take-pieces text 0 kept old,
      )

  back_shown : (met back : ℕ)
      (at : IsMeeting (fragment_by first text) (fragment_by first new_text) stop (start + length insert) met back)
      → drop met to_show ≡ map (moved (length insert) (stop - start)) (drop at.old_number shown)
  back_shown met back at =
      let i : ℕ = at.old_number in
      let order = edit.inside.start_le_stop in
      let past : start + length insert ≤ bound new met = omega (arith, at.past_edit) in
      let place : bound old i + (start + length insert) ≡ bound new met + stop = omega (arith, at.same_offset) in
      let there : bound old i ≡ bound new met - (start + length insert) + stop = omega arith in
      let a : bound old i ≡ 0 + bound old i = omega arith in
      let b : bound new met ≡ 0 + bound new met = omega arith in
      let same : drop (0 + bound old i) text ≡ drop (0 + bound new met) new_text =
      cc (same_rest law of_edit (bound new met) past) in
      let rest : drop met new ≡ drop i old = met_rest law of_edit met i past place in
      cc (
        drop-pieces new_text 0 met new,
        pieces-moved (length insert) (stop - start) text new_text (0 + bound old i)
            (0 + bound new met) (drop i old) same (omega arith) (omega arith),
        drop-pieces text 0 i old,
      )

  -- After the changed pieces are painted, the shown pieces are the pieces of the new text.
  pub enough : (r : Relexed) → IsRelexed (fragment_by first) text start stop insert r
      → to_show ≡ shown_after r (length insert) (stop - start) shown (changed r to_show)
  enough r is =
      let at = is.meeting in
      let back = at.back_is in
      let kept_is : r.kept_front ≡ kept = omega (arith, is.kept (omega arith, refl, refl)) in
      let number : length shown - r.kept_back ≡ at.old_number = omega (arith, length-pieces text 0 old) in
      let front : take r.kept_front to_show ≡ take r.kept_front shown = rw kept_is front_shown in
      cc (in_three r.kept_front r.lexed to_show, back_shown (r.kept_front + r.lexed) r.kept_back at)

  pub enough_for : {E : Type 0} (result : Result Relexed E) (bytes : List ℕ) (tokens held : List Token)
      → held ≡ tokens_by first text → tokens ≡ tokens_by first bytes
      → OnOk result (bytes ≡ apply text start stop insert)
      → IfOk result (IsRelexed (fragment_by first) text start stop insert)
      → IfOk result (λ r. pieces_from bytes 0 tokens ≡ shown_after r (length insert) (stop - start)
      (pieces_from text 0 held) (changed r (pieces_from bytes 0 tokens)))
  enough_for (Err e) bytes tokens held h t b r = tt
  enough_for (Ok x) bytes tokens held h t b r = grind (arith, common_steps, enough)
