-- A search for a pattern that first searches for one byte of it.
use Rattle.std.proofs.lemmas.Grind.{common_steps}
use Rattle.std.proofs.Common.{◌≡◌, ℕ, zero, suc, ◌+◌, ◌-◌, ◌<◌, ◌≤◌, ◌==◌, Bool, true, false, List, [], ◌∷◌, ◌++◌}
use Rattle.std.proofs.Common.{length, drop, get_or, refl, sym, ap, ◌∙◌, arith, Option, Some, None, length-drop}
use Rattle.std.proofs.Common.{drop-drop}
use Rattle.std.proofs.{Math.Seq.{drop-cons, drop-length}, lemmas.Bool.{eq-eqb, eqb-true, false_from_ne_true}}
use Rattle.std.proofs.lemmas.{Bool.Decides.{Decides-eqb}, List.{get_or-drop}, Slice.Eq.{starts_is}}
use Rattle.std.specs.List.{starts_with}
use Rattle.memchr.specs.Find.{IsFirstByte, is_byte}
use Rattle.rustc_lexer.specs.model.{Frontmatter.{first}, Least.{more, one_more}, Scan.{begins}}
use Rattle.rustc_lexer.specs.laws.{Choice.{by_either}, Fences.{begins-whole}, LanguageRuns.{either-way}}
use Rattle.rustc_lexer.specs.laws.Least.{more-more, more-zero, offset-here, offset-on, one_more-more}

begins-front : (pattern rest : List ℕ) → begins pattern (pattern ++ rest) ≡ true
begins-front [] rest = refl
begins-front (c ∷ cs) rest = rw (eq-eqb c c refl, begins-front cs rest) refl

pub starts-begins : (tail pattern : List ℕ) (answer : Bool) → answer ≡ starts_with (λ x y. x == y) tail pattern
    → answer ≡ begins pattern tail
starts-begins tail pattern answer is = by_either (begins pattern tail)
    (λ e. (starts_is Decides-eqb tail pattern answer is).1 _ (begins-whole pattern tail e) ∙ sym e)
    (λ e. false_from_ne_true answer
    (λ t. either-way _ (rw ((starts_is Decides-eqb tail pattern answer is).0 t) (begins-front pattern _)) e) ∙ sym e)

more-one : (k : ℕ) (o : Option ℕ) → more k (one_more o) ≡ more (k + 1) o
more-one k o = grind (arith, common_steps)

-- Holds if the pattern has no match before `from`.
pub record IsPast (pattern rest : List ℕ) (from : ℕ) : Type 0 where
  pub inside : from ≤ length rest
  pub left : first pattern rest ≡ more from (first pattern (drop from rest))

pub at_start : (pattern rest : List ℕ) → IsPast pattern rest 0
at_start pattern rest = record { inside = omega arith; left = more-zero (first pattern rest) }

module _ (d : ℕ) (ds : List ℕ) where
  -- No match starts with another byte.
  over : (s : List ℕ) (k : ℕ) → k ≤ length s → ((j : ℕ) → j < k → (get_or s j 0 == d) ≡ true → ⊥)
      → first (d ∷ ds) s ≡ more k (first (d ∷ ds) (drop k s))
  over s zero le none = more-zero (first (d ∷ ds) s)
  over [] (suc k) le none = absurd (omega arith)
  over (c ∷ s) (suc k) le none = by_either (c == d)
      (λ e. absurd (none 0 (omega arith) e))
      (λ e. cc (
        offset-on (begins (d ∷ ds)) c s (rw e refl),
        over s k (omega arith) (λ j l. none (suc j) (omega arith)),
        one_more-more k (first (d ∷ ds) (drop k s)),
      ))

  -- The first occurrence of the byte after the part that is skipped.
  module _ (rest cut : List ℕ) (start : ℕ)
      (skipped : first (d ∷ ds) rest ≡ more start (first (d ∷ ds) (drop start rest))) (e : cut ≡ drop start rest) where
    pub start_none : IsFirstByte (is_byte d) cut None → first (d ∷ ds) rest ≡ None
    start_none none =
        rw (← e, over cut (length cut) (omega arith) (λ j l. none j (omega arith) l), drop-length cut) at skipped

    pub start_some : start ≤ length rest → (step : ℕ) → IsFirstByte (is_byte d) cut (Some step)
        → (start + step < length rest) × (get_or rest (start + step) 0 ≡ d)
        × (first (d ∷ ds) rest ≡ more (start + step) (first (d ∷ ds) (drop (start + step) rest)))
    start_some inside step here =
        let h = here.0.high in (
          omega (arith, ap length e, length-drop start rest),
          cc (get_or-drop start rest step 0, eqb-true (get_or cut step 0) d here.1),
          cc (
            skipped,
            over cut step (omega arith) (λ j l. here.0.before j (omega arith) l),
            more-more start step (first (d ∷ ds) (drop step cut)),
            drop-drop step start rest,
          ),
        )

  module _ (rest cut : List ℕ) (from : ℕ) (at : IsPast (d ∷ ds) rest from) (e : cut ≡ drop from rest) where
    cut_left : first (d ∷ ds) rest ≡ more from (first (d ∷ ds) cut)
    cut_left = rw e at.left

    pub past_end : first (d ∷ ds) cut ≡ None → None ≡ first (d ∷ ds) rest
    past_end none = rw none at (sym cut_left)

    -- The byte is `step` bytes further on, and `tail` is the text after it.
    module _ (step : ℕ) (here : (step < length cut) × (get_or cut step 0 ≡ d)
        × (first (d ∷ ds) cut ≡ more step (first (d ∷ ds) (drop step cut)))) (tail : List ℕ)
        (behind : tail ≡ drop (from + step + 1) rest) where
      inside : from + step < length rest
      inside = let h = here.0 in let i = at.inside in omega (arith, ap length e, length-drop from rest)

      at_byte : drop step cut ≡ d ∷ tail
      at_byte = grind (arith, common_steps, get_or-drop, drop-drop, drop-cons, inside)

      so_far : first (d ∷ ds) rest ≡ more (from + step) (first (d ∷ ds) (d ∷ tail))
      so_far = cc (cut_left, here.2, at_byte, more-more from step (first (d ∷ ds) (d ∷ tail)))

      module _ (answer : Bool) (is : answer ≡ starts_with (λ x y. x == y) tail ds) where
        stands : begins (d ∷ ds) (d ∷ tail) ≡ answer
        stands = rw (eq-eqb d d refl) (sym (starts-begins tail ds answer is))

        pub past_found : answer ≡ true → (place : ℕ) → place ≡ from + step + 1 - 1 → Some place ≡ first (d ∷ ds) rest
        past_found so place there =
            rw (so_far, offset-here (begins (d ∷ ds)) d tail (stands ∙ so)) (ap Some (omega arith))

        pub past_on : answer ≡ false → IsPast (d ∷ ds) rest (from + step + 1)
        past_on fails = grind (arith, common_steps, inside, so_far, offset-on, stands, more-one)
