-- A text that grows at its end: the part after a final boundary decides whether its tokens change, and the boundary
-- moves forward.
use Rattle.std.proofs.Common.{◌≡◌, ℕ, zero, suc, ◌+◌, ◌-◌, ◌^◌, ◌<◌, ◌≤◌, true, List, ◌++◌, codes, length, take, drop}
use Rattle.std.proofs.Common.{refl, ap, ◌∙◌, arith, length-append, length-drop, length-take, length-take-le}
use Rattle.std.proofs.Common.{take-append-drop, drop-drop, take_all, chars, IsUtf8, IsCharBoundary}
use Rattle.std.proofs.lemmas.{Grind.{common_steps}, List.{drop-append-le, take_rest}}
use Rattle.std.proofs.lemmas.Str.{IsCharBoundary-from_drop, IsUtf8-append, IsUtf8-between, IsUtf8-drop}
use Rattle.std.proofs.lemmas.Str.{chars-append}
use Rattle.rustc_lexer.specs.{Edition, Token, Answers.{first_in}, Classes.{IsText}}
use Rattle.rustc_lexer.specs.Joined as the
use Rattle.rustc_lexer.specs.Joined.{IsJoined, MayTouch, TailDecides}
use Rattle.rustc_lexer.specs.{Locality.{AgreePast, IsGrammar, IsSettled, has_two}, Partition.{bound, tokens_by}}
use Rattle.rustc_lexer.specs.laws.{Cuts.{IsCutAt, at_bound, tokens_local}, Edition.{edition_grammar}}
use Rattle.rustc_lexer.specs.model.Joined.{IsFinalBoundary}
use Rattle.rustc_lexer.proofs.lemmas.edits.FrontAndBack.{bound-same, drop_of-take, has_two-agree, has_two-before}
use Rattle.rustc_lexer.proofs.lemmas.edits.FrontAndBack.{has_two-count, has_two-intro, has_two-same}
use Rattle.rustc_lexer.proofs.lemmas.{edits.Bounds.{bound-last}, edits.KeptFront.{bound-shift}}
use Rattle.rustc_lexer.proofs.lemmas.heads.ByTokens.{bound-append}
use Rattle.rustc_lexer.proofs.lemmas.joined.Joined.{IsSeamFrom, front_text, final_touch, sure_stays}

pub final_start : (edition : Edition) (text : List ℕ) → IsFinalBoundary (first_in edition) text 0
final_start edition text =
    record { number = 0; few = omega arith; offset_is = refl; two = λ some. absurd (omega (arith, some)) }

module _ (edition : Edition) where
  abbrev law : IsGrammar (first_in edition)
  law = edition_grammar edition

  abbrev first : List ℕ → Token
  first = first_in edition

  pub final_place : (text : List ℕ) (from : ℕ) → IsText text → IsFinalBoundary first text from → IsCharBoundary text from
  final_place text from is at =
      let cut : IsCutAt first text (tokens_by first text) at.number = at_bound law at.number text is in
      rw at.offset_is at
      (IsCharBoundary-from_drop text (bound (tokens_by first text) at.number) cut.inside cut.past.utf8)

  -- Two characters after an offset are still there after the text grew.
  two_more : (text more : List ℕ) (from : ℕ) → IsText text → IsCharBoundary text from
      → has_two text from (length text) ≡ true → has_two (text ++ more) from (length (text ++ more)) ≡ true
  two_more text more from is cut two =
      let enough : 2 ≤ length (chars (drop from text)) =
      rw (take_rest text from) at (has_two-count text from (length text) two) in
      has_two-intro (text ++ more) from (length (text ++ more)) (rw (
        take_rest (text ++ more) from,
        drop-append-le from text more cut.0,
        chars-append (drop from text) more (IsUtf8-drop text from is.utf8 cut),
      ) (omega (arith, length-append (chars (drop from text)) (chars more))))

  -- A final boundary is still final if the tokens up to it do not change.
  sure_same : {text other : List ℕ} {from : ℕ} (at : IsFinalBoundary first text from) → take at.number (tokens_by first other) ≡
      take at.number (tokens_by first text)
      → (0 < from → has_two other from (length other) ≡ true) → IsFinalBoundary first other from
  sure_same {text} {other} at same two = record {
    number = at.number;
    few = omega (
      arith,
      at.few,
      ap length same,
      length-take at.number (tokens_by first other),
      length-take at.number (tokens_by first text),
    );
    offset_is = bound-same at.number (tokens_by first other) (tokens_by first text) same ∙ at.offset_is;
    two = two;
  }

  -- A final boundary of a text is final in a prefix that contains two characters after it.
  pub final_cut : (text : List ℕ) (from at : ℕ) → IsText text → IsCharBoundary text at → IsFinalBoundary first text from
      → has_two text from at ≡ true → IsFinalBoundary first (take at text) from
  final_cut text from at is cut here two =
      let k : ℕ = here.number in
      let left : List ℕ = take at text in
      let size : length left ≡ at = length-take-le at text cut.0 in
      let short : take at left ≡ take at text = take_all at left (omega (arith, size)) in
      let middle : IsUtf8 (take (at - from) (drop from text)) =
      IsUtf8-between text from at is.utf8 (omega (arith, has_two-before text from at two))
      (final_place text from is here) cut in
      let past : AgreePast (bound (tokens_by first text) k) text left =
      rw here.offset_is (has_two-agree text left from at middle short two) in
      let same : take k (tokens_by first left) ≡ take k (tokens_by first text) =
      tokens_local law k text left is (front_text is cut) here.few past in
      sure_same here same (λ some. rw size (has_two-same left text from at short ∙ two))

  -- A final boundary of the rest is a final boundary of the text.
  pub final_on : {text : List ℕ} {from more : ℕ} → IsText text → IsFinalBoundary first text from
      → IsSettled (drop from text) (tokens_by first (drop from text)) more → IsFinalBoundary first text (from + more)
  final_on {text} {from} {more} is at settled =
      let k : ℕ = at.number in
      let j : ℕ = settled.at_bound.0 in
      let tokens : List Token = tokens_by first text in
      let cut : IsCutAt first text tokens k = at_bound law k text is in
      let rest : drop k tokens ≡ tokens_by first (drop from text) =
      rw at.offset_is at cut.rest in
      let few : j ≤ length (tokens_by first (drop from text)) = settled.at_bound.1 in
      let place : bound (drop k tokens) j ≡ more = ap (λ (ts : List Token). bound ts j) rest ∙ settled.at_bound.2 in
      record {
        number = k + j;
        few = omega (arith, at.few, few, ap length rest, length-drop k tokens);
        offset_is = omega (arith, bound-shift tokens k j, place, at.offset_is);
        two = two more refl;
      }
    where
      two : (n : ℕ) → n ≡ more → 0 < from + more → has_two text (from + more) (length text) ≡ true
      two zero e some =
          let none : from + more ≡ from = omega arith in
          rw none (at.two (omega arith))
      two (suc n) e some =
          let count = rw (take_rest (drop from text) more, drop-drop more from text) at
          (has_two-count (drop from text) more (length (drop from text)) (settled.two (omega arith))) in
          has_two-intro text (from + more) (length text) (rw (take_rest text (from + more)) count)

  -- ---- the part after a boundary decides

  pub tail_decides : (text : List ℕ) (at : ℕ) → IsText text → IsCharBoundary text at
      → TailDecides edition (take at text) (drop at text)
  tail_decides text at is cut =
      let left : List ℕ = take at text in
      let left_is : IsText left = front_text is cut in
      λ k few two. (final_touch law left (drop at text) (bound (tokens_by first left) k) left_is
      (rw (take-append-drop at text) is) record { number = k; few = few; offset_is = refl; two = λ some. two }).1

  pub near : {text : List ℕ} {settled at : ℕ} → IsText text → IsCharBoundary text at → IsFinalBoundary first (take at text) settled
      → IsSeamFrom edition text at settled
  near {text} {settled} {at} is cut here =
      let left : List ℕ = take at text in
      let left_is : IsText left = front_text is cut in
      let split = final_touch law left (drop at text) settled left_is (rw (take-append-drop at text) is) here in
      let few : settled ≤ at = omega (arith, split.0, length-take-le at text cut.0) in
      let past : drop settled text ≡ drop settled left ++ drop at text =
      rw (take-append-drop at text) at (drop-append-le settled left (drop at text) split.0) in
      record {
        inside = few;
        boundary = IsCharBoundary-from_drop text settled (omega (arith, cut.0))
            (rw past (IsUtf8-append (drop settled left) (drop at text)
            (IsUtf8-drop left settled left_is.utf8 (final_place left settled left_is here))
            (IsUtf8-drop text at is.utf8 cut)));
        touch = rw (drop_of-take settled at text) at split.1;
      }

  -- ---- a text with a piece appended

  -- The joined text is unique.
  pub joined-only : {text piece one other : List ℕ} → IsJoined edition text piece one
      → IsJoined edition text piece other → other ≡ one
  joined-only w0 w1 = grind (arith, common_steps)

  -- Final boundaries are still final in the new text.
  grown_by : (text more : List ℕ) (from : ℕ) → IsText text → IsFinalBoundary first text from → length text + length more < 2 ^ 32
      → IsUtf8 (text ++ more)
      → IsText (text ++ more) × IsFinalBoundary first (text ++ more) from
  grown_by text more from is at room utf8 =
      let whole : IsText (text ++ more) = record { utf8 = utf8; fits = omega (arith, length-append text more) } in (
        whole,
        sure_same at (sure_stays law text more from at.number is whole at.few at.offset_is at.two)
            (λ some. two_more text more from is (final_place text from is at) (at.two some)),
      )

  pub grown : {text piece new : List ℕ} (from : ℕ) → IsJoined edition text piece new → IsText text
      → IsFinalBoundary first text from
      → length text + (length piece + 1) < 2 ^ 32 → IsUtf8 new → IsText new × IsFinalBoundary first new from
  grown {text} {piece} from (the.touching touch) is at room utf8 = grown_by text piece from is at (omega arith) utf8
  grown {text} {piece} from (the.spaced apart parted) is at room utf8 =
      grown_by text (codes " " ++ piece) from is at (omega arith) utf8
  grown {text} {piece} from (the.on_a_line apart spaced parted) is at room utf8 =
      grown_by text (codes "\n" ++ piece) from is at (omega arith) utf8

  -- The end of the old text is a final boundary of the new text if two characters follow it.
  sure_end : (text more : List ℕ) (others : List Token) → IsText text → tokens_by first (text ++ more) ≡
      tokens_by first text ++ others
      → has_two (text ++ more) (length text) (length (text ++ more)) ≡ true → IsFinalBoundary first (text ++ more) (length text)
  sure_end text more others is e two = record {
    number = length (tokens_by first text);
    few = omega (arith, ap length e, length-append (tokens_by first text) others);
    offset_is = rw (e, bound-append (tokens_by first text) others) (bound-last law text is);
    two = λ some. two;
  }

  joined_end : {text piece new : List ℕ} → IsJoined edition text piece new → IsText text
      → has_two new (length text) (length new) ≡ true → IsFinalBoundary first new (length text)
  joined_end {text} {piece} (the.touching touch) is two = sure_end text piece _ is touch two
  joined_end {text} {piece} (the.spaced apart parted) is two = sure_end text (codes " " ++ piece) _ is parted two
  joined_end {text} {piece} (the.on_a_line apart spaced parted) is two =
      sure_end text (codes "\n" ++ piece) _ is parted two

  pub settled_joined : {text piece new seen : List ℕ} {at : ℕ} → IsJoined edition text piece new → IsText text → seen ≡ new
      → at ≡ length text
      → has_two seen at (length seen) ≡ true → IsFinalBoundary first seen at
  settled_joined joined is e f two = rw (e, f) (joined_end joined is (rw (e, f) at two))
