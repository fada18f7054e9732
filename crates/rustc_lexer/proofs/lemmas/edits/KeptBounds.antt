-- The token boundaries of a lexed text, as the code stores them and as the specification defines them.
use Rattle.std.proofs.Common.{◌≡◌, ℕ, ◌+◌, ◌-◌, ◌^◌, ◌<◌, ◌≤◌, List, ◌++◌, length, take, drop, sym, ap, ◌∙◌}
use Rattle.std.proofs.Common.{arith, length-append, length-drop, inl, inr, IsCharBoundary, ◌↔◌, Bool, Option, IsSome}
use Rattle.std.proofs.Common.{None}
use Rattle.std.proofs.{Math.Seq.{drop-append_seam}, lemmas.{Bool.{cases_lt}, List.{take-append-le}}}
use Rattle.std.proofs.lemmas.{Str.{IsCharBoundary-from_rest}, Grind.{common_steps}}
use Rattle.rustc_lexer.specs.declared.relex.{checkpoints.Checkpoints.{Checkpoints}, boundary.TokenStart.{TokenStart}}
use Rattle.rustc_lexer.specs.{declared.head.Head.{Head}, Token, Classes.{IsText}, Offsets.{IsBound}}
use Rattle.rustc_lexer.specs.{model.Checkpoints.{IsBoundFrom}, Locality.{IsGrammar}, Tokens.{bound, tokens_by}}
use Rattle.rustc_lexer.specs.{model.Document.{AreKeptOf, tokens_of_head}, Partition.{Layout}, model.Pieces.{AreCut}}
use Rattle.rustc_lexer.proofs.lemmas.edits.Bounds.{bound-last, bound_mono, cuts, rest_is}
use Rattle.rustc_lexer.proofs.lemmas.{heads.ByTokens.{bound-append}, edits.FrontAndBack.{bound-same}}
use Rattle.rustc_lexer.proofs.lemmas.edits.{Heads.{all_are as tokens_are, start_is}, KeptFront.{bound-shift}}
use Rattle.rustc_lexer.specs.LexedText.{LexedModel, layout_in, start_in}

module _ {first : List ℕ → Token} (law : IsGrammar first) {layout : (List ℕ → Token) → List ℕ → Layout} (text : List ℕ)
    (tokens : List Token) (head : Head) (checkpoints : Checkpoints)
    (are : AreKeptOf layout first text tokens head checkpoints) where
  abbrev fronts : List Token
  fronts = tokens_of_head head

  abbrev body : List ℕ
  body = drop head.body text

  body_text : IsText body
  body_text = rest_is text head.body are.0 are.3

  all_are : tokens ≡ fronts ++ tokens_by first body
  all_are = are.1 ∙ tokens_are are.2 first

  behind : drop (length fronts) tokens ≡ tokens_by first body
  behind = rw all_are (drop-append_seam fronts (tokens_by first body))

  body_at : (k : ℕ) → head.body + bound (drop (length fronts) tokens) k ≡ head.tokens_start + bound tokens
      (length fronts + k)
  body_at k = grind (arith, common_steps, are.2.ends, all_are, bound-append, bound-shift)

  -- A boundary of the body's tokens is a boundary of all tokens.
  pub near_at : (near : TokenStart) (n : ℕ) → n ≡ length fronts → IsBound (drop (length fronts) tokens) near
      → head.body + near.offset ≡ head.tokens_start + bound tokens (n + near.index)
  near_at near n e at = rw e (omega (arith, at.1, body_at near.index))

  -- The same holds for its offset in the whole text.
  pub near_from : (near : TokenStart) (n : ℕ) → n ≡ length fronts → IsBound (drop (length fronts) tokens) near
      → IsBoundFrom head.tokens_start tokens (record { index = n + near.index; offset = head.body + near.offset })
  near_from near n e at = grind (arith, common_steps, all_are, length-append, length-drop, near_at)

  -- The last boundary is the end of the text.
  pub end_is : head.tokens_start + bound tokens (length tokens) ≡ length text
  end_is =
      let n : ℕ = length (tokens_by first body) in
      let last : bound (drop (length fronts) tokens) n ≡ length body = rw behind (bound-last law body body_text) in
      let all : length tokens ≡ length fronts + n = rw all_are (length-append fronts (tokens_by first body)) in
      rw all (omega (arith, body_at n, length-drop head.body text, are.3.0))

  pub offset_fits : (k : ℕ) → k ≤ length tokens → head.tokens_start + bound tokens k < 2 ^ 32
  offset_fits k few = omega (arith, are.0.fits, bound_mono tokens k (length tokens) few, end_is)

  cut_front : (k : ℕ) → k ≤ length fronts → IsCharBoundary text (head.tokens_start + bound tokens k)
  cut_front k few =
      let same : take k tokens ≡ take k fronts = rw all_are (take-append-le k fronts (tokens_by first body) few) in
      rw (bound-same k tokens fronts same) (are.2.cuts k few)

  cut_back : (j : ℕ) → length fronts + j ≤ length tokens
      → IsCharBoundary text (head.tokens_start + bound tokens (length fronts + j))
  cut_back j few =
      let there = cuts law body body_text j (omega (arith, ap length behind, length-drop (length fronts) tokens)) in
      rw (← body_at j, behind) (IsCharBoundary-from_rest text head.body _ are.3.0 there)

  -- The tokens cut the text at char boundaries.
  pub kept_cuts : AreCut text head.tokens_start (length text) tokens
  kept_cuts = (are.0.fits, by_front, sym end_is)
    where
      by_front : (k : ℕ) → k ≤ length tokens → IsCharBoundary text (head.tokens_start + bound tokens k)
      by_front k few = elim (cases_lt k (length fronts)) [
        | inl less ↦ cut_front k (omega arith)
        | inr more ↦
            let same : length fronts + (k - length fronts) ≡ k = omega arith in
            rw same at (cut_back (k - length fronts) (omega arith))
      ]

-- Consequences of the invariant for the view.
module _ {S : Type 0} {first : List ℕ → Token} (law : IsGrammar first) (whole : Bool) (text : List ℕ)
    (tokens : List Token) (head : Head) (checkpoints : Checkpoints)
    (are : AreKeptOf (layout_in whole) first text tokens head checkpoints) (held : LexedModel S) (text_is : text ≡ held.text)
    (tokens_is : tokens ≡ held.tokens) where
  pub start_seen : head.tokens_start ≡ start_in whole held.text
  start_seen = rw text_is at (start_is whole text head are.2)

  pub fits_seen : (k : ℕ) → k ≤ length held.tokens → start_in whole held.text + bound held.tokens k < 2 ^ 32
  fits_seen k few =
      rw (← start_seen, ← tokens_is) (offset_fits law text tokens head checkpoints are k (rw tokens_is few))

  pub end_seen : start_in whole held.text + bound held.tokens (length held.tokens) ≡ length held.text
  end_seen = rw (← start_seen, ← tokens_is, ← text_is) (end_is law text tokens head checkpoints are)

  pub cut_seen : AreCut held.text (start_in whole held.text) (length held.text) held.tokens
  cut_seen = rw (← start_seen, ← tokens_is, ← text_is) (kept_cuts law text tokens head checkpoints are)

-- If no token contains the offset, it is at or after the end of the text.
pub none_past : {result : Option TokenStart} {first offset len : ℕ} → IsSome result
    ↔ ((first ≤ offset) × (offset < len)) → result ≡ None → first ≤ offset → len ≤ offset
none_past some none from = grind (arith, common_steps, cases_lt)
