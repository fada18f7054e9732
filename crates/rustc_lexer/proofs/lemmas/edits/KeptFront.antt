-- The kept front: the tokens that at least two characters follow before the edit.
use Rattle.std.proofs.Common.{◌≡◌, ◌↔◌, refl, inl, inr, ℕ, zero, suc, ◌+◌, ◌<◌, ◌≤◌, Bool, true, false, true≢false}
use Rattle.std.proofs.Common.{List, [], ◌∷◌, length, get_or, drop, sym, ◌∙◌, arith, IsUtf8, drop-cons, inl}
use Rattle.std.specs.List.{count_by}
use Rattle.std.proofs.lemmas.{List.Sums.{count_by-le-length}, Bool.{cases_lt, false_from_ne_true}, Grind.{common_steps}}
use Rattle.rustc_lexer.specs.{model.Relexer.{AreBoundaries, kept_front}, Token, Tokens.{bound}, Edits.{ends_from}}
use Rattle.rustc_lexer.specs.Locality.{has_two}
use Rattle.rustc_lexer.proofs.lemmas.edits.{Bounds.{bound_mono, count-cons}, FrontAndBack.{has_two-late, has_two-mono}}
use Rattle.rustc_lexer.proofs.lemmas.tokens.Progress.{IsNext, next-from_drop}

-- ---- counting

none_counted : (test : ℕ → Bool) (xs : List ℕ) → ((k : ℕ) → k < length xs → test (get_or xs k 0) ≡ false)
    → count_by test xs ≡ 0
none_counted test [] none = refl
none_counted test (x ∷ xs) none =
    grind (
      arith,
      common_steps,
      count-cons test x xs,
      none_counted test xs (λ k few. none (suc k) (omega arith)),
      none 0 (omega arith),
    )

-- If every item before a passing item passes, the passing items are the first ones.
counted_first : (test : ℕ → Bool) (xs : List ℕ)
    → ((i j : ℕ) → i ≤ j → j < length xs → test (get_or xs j 0) ≡ true → test (get_or xs i 0) ≡ true) → (k : ℕ)
    → k < length xs → (test (get_or xs k 0) ≡ true) ↔ (k < count_by test xs)
counted_first test [] first k few = absurd (omega arith)
counted_first test (x ∷ xs) first k few =
    by_test (test x) refl (counted_first test xs (λ i j le less. first (suc i) (suc j) (omega arith) (omega arith))) k
    few
  where
    by_test : (b : Bool) → test x ≡ b
        → ((k : ℕ) → k < length xs → (test (get_or xs k 0) ≡ true) ↔ (k < count_by test xs)) → (k : ℕ)
        → k < suc (length xs)
        → (test (get_or (x ∷ xs) k 0) ≡ true) ↔ (k < count_by test (x ∷ xs))
    by_test true e later zero less = grind (arith, common_steps, count-cons test x xs)
    by_test true e later (suc k) less = grind (arith, common_steps, count-cons test x xs, later k (omega arith))
    by_test false e later k less =
        let none = none_counted test (x ∷ xs)
        (λ j few. false_from_ne_true _ (λ has. cc (first 0 j (omega arith) few has))) in
        grind (arith, common_steps, none, first 0 k (omega arith) less)

length-ends_from : (from : ℕ) (ts : List Token) → length (ends_from from ts) ≡ length ts
length-ends_from from [] = refl
length-ends_from from (t ∷ ts) = cc (length-ends_from (from + t.len) ts)

get_or-ends_from : (from : ℕ) (ts : List Token) (k : ℕ) → k < length ts → get_or (ends_from from ts) k 0 ≡
    from + bound ts (suc k)
get_or-ends_from from [] k few = absurd (omega arith)
get_or-ends_from from (t ∷ ts) zero few = omega arith
get_or-ends_from from (t ∷ ts) (suc k) few = omega (arith, get_or-ends_from (from + t.len) ts k (omega arith))

-- ---- the kept front

-- An edit at the start of the text keeps nothing in front.
pub kept_none : (text : List ℕ) (ts : List Token) → kept_front text ts 0 ≡ 0
kept_none text ts =
    none_counted (λ end. has_two text end 0) (ends_from 0 ts) (λ k few. has_two-late text _ 0 (omega arith))

module _ (text : List ℕ) (tokens : List Token) (to : ℕ) (is : IsUtf8 text) (cuts : AreBoundaries text tokens) where
  pub kept_few : kept_front text tokens to ≤ length tokens
  kept_few = omega (
    arith,
    count_by-le-length (λ end. has_two text end to) (ends_from 0 tokens),
    length-ends_from 0 tokens,
  )

  -- A boundary is in the kept front exactly if two characters follow it.
  pub kept_tells : (k : ℕ) → k ≤ length tokens → (0 < k → has_two text (bound tokens k) to ≡ true)
      ↔ (k ≤ kept_front text tokens to)
  kept_tells zero few = (λ two. omega arith, λ first some. absurd (omega arith))
  kept_tells (suc k) few =
      let at : (i : ℕ) → i < length tokens → get_or (ends_from 0 tokens) i 0 ≡ bound tokens (suc i) = λ i less.
      omega (arith, get_or-ends_from 0 tokens i less) in
      let many = length-ends_from 0 tokens in
      let tells = counted_first (λ end. has_two text end to) (ends_from 0 tokens) (λ i j le less two.
      rw (at i (omega arith))
      (has_two-mono text _ (bound tokens (suc j)) to is (bound_mono tokens (suc i) (suc j) (omega arith))
      (cuts (suc i) (omega arith))
      (cuts (suc j) (omega arith)) (rw (at j (omega arith)) at two))) k (omega arith) in
      (λ two. tells.0 (rw (at k few) (two (omega arith))), λ first some. rw (at k few) at (tells.1 first))

  -- The kept front ends at the last boundary that two characters follow.
  pub kept_is : (n : ℕ) → n ≤ length tokens → (0 < n → has_two text (bound tokens n) to ≡ true)
      → (n < length tokens → has_two text (bound tokens (n + 1)) to ≡ false) → n ≡ kept_front text tokens to
  kept_is n few two out = elim (cases_lt n (kept_front text tokens to)) [
    | inl less ↦ absurd
        (true≢false (sym ((kept_tells (n + 1) (omega (arith, less, kept_few))).1 (omega arith) (omega arith))
        ∙ out (omega (arith, less, kept_few))))
    | inr more ↦ omega (arith, more, (kept_tells n few).0 two)
  ]

-- ---- a boundary after a boundary

bound-nil : (k : ℕ) → bound [] k ≡ 0
bound-nil zero = refl
bound-nil (suc k) = refl

pub bound-shift : (tokens : List Token) (n k : ℕ) → bound tokens (n + k) ≡ bound tokens n + bound (drop n tokens) k
bound-shift tokens zero k = grind (arith, common_steps)
bound-shift [] (suc n) k = omega (arith, bound-nil (suc n + k), bound-nil k)
bound-shift (t ∷ ts) (suc n) k =
    let e : suc n + k ≡ suc (n + k) = omega arith in rw e (omega (arith, bound-shift ts n k))

pub bound-next : (tokens : List Token) (n : ℕ) (d : Token) → n < length tokens
    → bound tokens n + (get_or tokens n d).len ≡ bound tokens (n + 1)
bound-next tokens n d few =
    let next : IsNext tokens n (get_or tokens n d) = next-from_drop tokens n _ _ (drop-cons tokens n d few) in
    let e : suc n ≡ n + 1 = omega arith in cc next.end
