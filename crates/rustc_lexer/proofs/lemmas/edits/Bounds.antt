-- Boundaries of a list of tokens.
use Rattle.std.proofs.Common.{◌≡◌, ℕ, zero, suc, ◌+◌, ◌<◌, ◌≤◌, ◌^◌, Bool, cond, List, [], ◌∷◌, ◌++◌, length, drop, ap}
use Rattle.std.proofs.Common.{◌∙◌, arith, length-drop, IsCharBoundary}
use Rattle.std.proofs.lemmas.List.Sums.{sum_by_from}
use Rattle.std.specs.List.{count_by}
use Rattle.std.proofs.lemmas.{List.{drop_all}, Str.{IsCharBoundary-from_drop, IsUtf8-drop}, Grind.{common_steps}}
use Rattle.rustc_lexer.specs.{Token, Classes.{IsText}, Locality.{IsGrammar}, Tokens.{bound, tokens_by}}
use Rattle.rustc_lexer.specs.{model.Relexer.{AreBoundaries}, laws.Cuts.{IsCutAt, at_bound, tokens-cons, tokens-nil}}
use Rattle.rustc_lexer.proofs.lemmas.tokens.Progress.{IsNext, next-from_drop}

-- The rest of a text from a boundary on is a text.
pub rest_is : (text : List ℕ) (at : ℕ) → IsText text → IsCharBoundary text at → IsText (drop at text)
rest_is text at is here =
    record { utf8 = IsUtf8-drop text at is.utf8 here; fits = omega (arith, is.fits, length-drop at text) }

pub bound_mono : (ts : List Token) (i j : ℕ) → i ≤ j → bound ts i ≤ bound ts j
bound_mono ts zero j le = omega arith
bound_mono [] (suc i) zero le = omega arith
bound_mono [] (suc i) (suc j) le = omega arith
bound_mono (t ∷ ts) (suc i) zero le = absurd (omega arith)
bound_mono (t ∷ ts) (suc i) (suc j) le = omega (arith, bound_mono ts i j (omega arith))

-- One more token moves the end by its length.
pub bound-end : (ts : List Token) (t : Token) → bound (ts ++ t ∷ []) (length (ts ++ t ∷ [])) ≡
    bound ts (length ts) + t.len
bound-end [] t = omega arith
bound-end (u ∷ ts) t = omega (arith, bound-end ts t)

pub rises : {first : List ℕ → Token} (law : IsGrammar first) (text : List ℕ) → IsText text → (k : ℕ)
    → k < length (tokens_by first text) → bound (tokens_by first text) k < bound (tokens_by first text) (suc k)
rises {first} law text is k few =
    let cut : IsCutAt first text (tokens_by first text) k = at_bound law k text is in
    let left : List ℕ = drop (bound (tokens_by first text) k) text in
    let some : 0 < length left = non-empty left cut.rest in
    let next : IsNext (tokens_by first text) k (first left) =
    next-from_drop _ k _ _ (cut.rest ∙ tokens-cons law left cut.past some) in
    omega (arith, next.end, law.not_empty left cut.past some)
  where
    non-empty : (left : List ℕ) → drop k (tokens_by first text) ≡ tokens_by first left → 0 < length left
    non-empty [] e = absurd (omega (arith, ap length (e ∙ tokens-nil first), length-drop k (tokens_by first text)))
    non-empty (c ∷ cs) e = omega arith

-- There are at least k bytes before token boundary k, because no token is empty.
pub number_le_bound : (ts : List Token) (k : ℕ) → k ≤ length ts
    → ((j : ℕ) → j < length ts → bound ts j < bound ts (suc j)) → k ≤ bound ts k
number_le_bound ts zero few up = omega arith
number_le_bound ts (suc k) few up = omega (arith, up k (omega arith), number_le_bound ts k (omega arith) up)

pub count-cons : {X : Type 0} (test : X → Bool) (x : X) (xs : List X)
    → count_by test (x ∷ xs) ≡ cond (test x) 1 0 + count_by test xs
count-cons test x xs = grind (arith, common_steps, sum_by_from)

-- The last token boundary is the end of the text.
pub bound-last : {first : List ℕ → Token} (law : IsGrammar first) (text : List ℕ) → IsText text
    → bound (tokens_by first text) (length (tokens_by first text)) ≡ length text
bound-last law text is = grind (arith, common_steps, at_bound, drop_all, length-drop, tokens-cons)

pub tokens_le_bytes : {first : List ℕ → Token} (law : IsGrammar first) (text : List ℕ) → IsText text
    → length (tokens_by first text) ≤ length text
tokens_le_bytes law text is = grind (arith, common_steps, number_le_bound, bound-last law text is, rises)

module _ {first : List ℕ → Token} (law : IsGrammar first) (text : List ℕ) (is : IsText text) where
  -- Each token boundary is in bounds and on a char boundary.
  pub cuts : AreBoundaries text (tokens_by first text)
  cuts k few = let cut = at_bound law k text is in IsCharBoundary-from_drop text _ cut.inside cut.past.utf8

  pub bounds_fit : (k : ℕ) → k ≤ length (tokens_by first text) → bound (tokens_by first text) k < 2 ^ 32
  bounds_fit k few = omega (arith, (cuts k few).0, is.fits)
