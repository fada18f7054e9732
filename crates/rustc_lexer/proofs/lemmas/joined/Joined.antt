-- Texts that may touch: how to decide it, and that a suffix of the first text is enough.
use Rattle.std.proofs.Common.{◌≡◌, ◌↔◌, ℕ, zero, suc, ◌+◌, ◌-◌, ◌<◌, ◌≤◌, true, List, [], ◌++◌, length, take, drop}
use Rattle.std.proofs.Common.{refl, sym, ap, ◌∙◌, arith, length-append, length-drop, length-take, length-take-le}
use Rattle.std.proofs.Common.{take-append-drop, slice_range, IsUtf8, IsCharBoundary}
use Rattle.std.proofs.{Math.Seq.{drop-append_seam}, lemmas.List.{append_cancel_left, drop-append-le}}
use Rattle.std.proofs.lemmas.Str.{IsCharBoundary-start, IsCharBoundary-from_rest, IsUtf8-drop, IsUtf8-between}
use Rattle.std.proofs.lemmas.Str.{IsUtf8-take}
use Rattle.std.proofs.lemmas.Grind.{common_steps}
use Rattle.rustc_lexer.specs.{Edition, Token, Answers.{first_in}, Classes.{IsText}}
use Rattle.rustc_lexer.specs.Joined as the
use Rattle.rustc_lexer.specs.{Joined.{IsJoined, IsSeparated, MayTouch, AreInseparable}, Locality.{has_two, IsGrammar}}
use Rattle.rustc_lexer.specs.{Partition.{bound, tokens_by}, laws.Cuts.{IsCutAt, at_bound, tokens-cons, tokens-nil}}
use Rattle.rustc_lexer.specs.{laws.Edition.{edition_grammar}, model.Joined.{IsFinalBoundary}}
use Rattle.std.proofs.lemmas.List.Folds.{drop_split}
use Rattle.rustc_lexer.proofs.lemmas.{edits.Bounds.{bound_mono, bound-last, rises}, heads.ByTokens.{bound-append}}
use Rattle.rustc_lexer.proofs.lemmas.edits.{Settled.{stays_at}, FrontAndBack.{bound-same, drop_of-take}}

-- A common front of two lists can be removed.
front_cancels : {whole left : List Token} (front rest more us : List Token) → whole ≡ front ++ rest
    → left ≡ front ++ more → whole ≡ left ++ us
    ↔ rest ≡ more ++ us
front_cancels front rest more us w5 w6 = grind (arith, common_steps, append_cancel_left)

pub front_text : {text : List ℕ} {at : ℕ} → IsText text → IsCharBoundary text at → IsText (take at text)
front_text {text} {at} is cut =
    record { utf8 = IsUtf8-take text at is.utf8 cut; fits = omega (arith, length-take at text, is.fits) }

-- Holds if the texts on both sides of `at` may touch exactly if the part from `offset` to `at` may touch the second
-- text.
pub record IsSeamFrom (edition : Edition) (text : List ℕ) (at offset : ℕ) : Type 0 where
  pub inside : offset ≤ at
  pub boundary : IsCharBoundary text offset
  pub touch : MayTouch edition (take at text) (drop at text)
      ↔ MayTouch edition (slice_range text offset at) (drop at text)

module _ {first : List ℕ → Token} (law : IsGrammar first) where
  abbrev pub Touch : List ℕ → List ℕ → Type 0
  Touch left right = tokens_by first (left ++ right) ≡ tokens_by first left ++ tokens_by first right

  -- If the first token of a text does not change, the text touches another exactly if the part after the token does.
  pub touch_past : (left right : List ℕ) → IsText left → IsText (left ++ right) → 0 < length left
      → first (left ++ right) ≡ first left
      → Touch left right ↔ Touch (drop (first left).len left) right
  touch_past left right is whole some same =
      let its = rw (same, drop-append-le (first left).len left right (law.boundary left is some).0) at
      (tokens-cons law (left ++ right) whole (omega (arith, length-append left right))) in
      rw (its, tokens-cons law left is some) (λ e. cc, λ e. cc)

  pub touch_first : (left right : List ℕ) → IsText left → IsText (left ++ right) → 0 < length left → Touch left right
      → first (left ++ right) ≡ first left
  touch_first left right is whole some touch = grind (arith, common_steps, tokens-cons)

  -- ---- a suffix of the first text is enough

  -- Appending text does not change the tokens up to a final boundary.
  pub sure_stays : (left more : List ℕ) (from number : ℕ) → IsText left → IsText (left ++ more)
      → number ≤ length (tokens_by first left) → bound (tokens_by first left) number ≡ from
      → (0 < from → has_two left from (length left) ≡ true)
      → take number (tokens_by first (left ++ more)) ≡ take number (tokens_by first left)
  sure_stays left more from zero is whole few at two = refl
  sure_stays left more from (suc k) is whole few at two =
      let positive : 0 < from =
      omega (
        arith,
        at,
        rises law left is 0 (omega arith),
        bound_mono (tokens_by first left) 1 (suc k)
            (omega arith),
      ) in
      stays_at law left is more (suc k) whole few (rw at (two positive))

  -- So a text touches another exactly if the part after a final boundary does.
  pub final_touch : (left more : List ℕ) (from : ℕ) → IsText left → IsText (left ++ more) → IsFinalBoundary first left from
      → (from ≤ length left) × (Touch left more ↔ Touch (drop from left) more)
  final_touch left more from is whole at =
      let k : ℕ = at.number in
      let cut : IsCutAt first left (tokens_by first left) k = at_bound law k left is in
      let its_cut : IsCutAt first (left ++ more) (tokens_by first (left ++ more)) k =
      at_bound law k (left ++ more) whole in
      let stays : take k (tokens_by first (left ++ more)) ≡ take k (tokens_by first left) =
      sure_stays left more from k is whole at.few at.offset_is at.two in
      let same : bound (tokens_by first (left ++ more)) k ≡ from =
      bound-same k (tokens_by first (left ++ more)) (tokens_by first left) stays ∙ at.offset_is in
      let inside : from ≤ length left = omega (arith, cut.inside, at.offset_is) in
      let rest : drop k (tokens_by first left) ≡ tokens_by first (drop from left) = rw at.offset_is at cut.rest in
      let its_rest : drop k (tokens_by first (left ++ more)) ≡ tokens_by first (drop from left ++ more) =
      rw (same, drop-append-le from left more inside) at its_cut.rest in (
        inside,
        front_cancels (take k (tokens_by first left)) _ _ (tokens_by first more)
            (cc (take-append-drop k (tokens_by first (left ++ more)))) (cc (take-append-drop k (tokens_by first left))),
      )

-- A separator that keeps texts apart may touch the second text.
pub separated_past : (edition : Edition) (text : List ℕ) (at len : ℕ) → IsText text → IsCharBoundary text at
    → IsSeparated edition (take at text) (take len (drop at text)) (drop len (drop at text))
    → MayTouch edition (take len (drop at text)) (drop len (drop at text))
separated_past edition text at len is cut e =
    let left : List Token = tokens_by (first_in edition) (take at text) in
    let last : bound left (length left) ≡ length (take at text) = bound-last (edition_grammar edition)
    (take at text) (front_text is cut) in
    let whole = rw (take-append-drop len (drop at text), take-append-drop at text) at e in
    let here : bound (tokens_by (first_in edition) text) (length left) ≡ at =
    ap (λ (ts : List Token). bound ts (length left)) whole
    ∙ (bound-append left _ ∙ (last ∙ length-take-le at text cut.0)) in
    rw (take-append-drop len (drop at text))
    (sym (rw here at (at_bound (edition_grammar edition) (length left) text is).rest)
    ∙ (ap (drop (length left)) whole ∙ drop-append_seam left _))

-- The empty text may touch every text.
pub touch_none : (edition : Edition) (text : List ℕ) → MayTouch edition (take 0 text) (drop 0 text)
touch_none edition text =
    rw (tokens-nil (first_in edition)) refl

-- ---- how to decide it

pub seam_start : (edition : Edition) (text : List ℕ) (at : ℕ) → IsUtf8 text → IsSeamFrom edition text at 0
seam_start edition text at utf8 =
    let none : at - 0 ≡ at = omega arith in
    record { inside = omega arith; boundary = IsCharBoundary-start text utf8; touch = rw none (λ t. t, λ t. t) }

module _ {edition : Edition} {text : List ℕ} {at : ℕ} (is : IsText text) (cut : IsCharBoundary text at) {offset : ℕ}
    (so : IsSeamFrom edition text at offset) where
  pub seam_end : at ≤ offset → MayTouch edition (take at text) (drop at text)
  seam_end all = grind (arith, common_steps, tokens-nil)

  abbrev left : List ℕ
  left = slice_range text offset at

  left_is : IsText left
  left_is = record {
    utf8 = IsUtf8-between text offset at is.utf8 so.inside so.boundary cut;
    fits = grind (arith, common_steps);
  }

  whole : left ++ drop at text ≡ drop offset text
  whole = sym (drop_split text offset at so.inside)

  whole_is : IsText (drop offset text)
  whole_is = record
      { utf8 = IsUtf8-drop text offset is.utf8 so.boundary; fits = omega (arith, length-drop offset text, is.fits) }

  module _ (more : offset < at) {alone together : Token} (e : alone ≡ first_in edition left)
      (f : together ≡ first_in edition (drop offset text)) where
    long : length left ≡ at - offset
    long = grind (arith, common_steps)

    pub seam_rises : 0 < alone.len
    seam_rises = omega
        (arith, ap (λ (t : Token). t.len) e, (edition_grammar edition).not_empty left left_is (omega (arith, long)))

    pub seam_more : alone ≡ together → IsSeamFrom edition text at (offset + alone.len)
    seam_more same =
        let at_end : IsCharBoundary left alone.len =
        rw e ((edition_grammar edition).boundary left left_is (omega (arith, long))) in
        let past : drop alone.len left ≡ slice_range text (offset + alone.len) at =
        grind (arith, common_steps, drop_of-take) in
        let step : MayTouch edition left (drop at text) ↔ MayTouch edition (drop alone.len left) (drop at text) =
        rw e (touch_past (edition_grammar edition) left (drop at text) left_is (rw whole whole_is) (omega (arith, long))
        (rw whole (sym f ∙ sym same ∙ e))) in
        let its : MayTouch edition left (drop at text)
        ↔ MayTouch edition (slice_range text (offset + alone.len) at) (drop at text) = rw past at step in
        record {
          inside = omega (arith, at_end.0, long);
          boundary = IsCharBoundary-from_rest text offset alone.len (omega (arith, cut.0))
              (rw (same, f) ((edition_grammar edition).boundary (drop offset text) whole_is
              (omega (arith, cut.0, length-drop offset text))));
          touch = (λ t. its.0 (so.touch.0 t), λ t. so.touch.1 (its.1 t));
        }

    pub seam_differs : (alone ≡ together → ⊥) → MayTouch edition (take at text) (drop at text) → ⊥
    seam_differs differ touch =
        differ
        (e
        ∙ (sym (touch_first (edition_grammar edition) left (drop at text) left_is (rw whole whole_is)
        (omega (arith, long))
        (so.touch.0 touch)) ∙ (ap (first_in edition) whole ∙ sym f)))

-- ---- the first separator that keeps a text and a piece apart

pub nothing-separates : (edition : Edition) (text piece : List ℕ) → IsSeparated edition text [] piece
    → MayTouch edition text piece
nothing-separates edition text piece e = rw tokens-nil at e

pub touching-separated : (edition : Edition) (text piece : List ℕ) → MayTouch edition text piece
    → IsSeparated edition text [] piece
touching-separated edition text piece e = rw tokens-nil e

pub ruleset joined_lemmas = (nothing-separates, touching-separated, the.touching, the.spaced, the.on_a_line)
