-- Functions of the first characters of a text; runs, and the first offset at which a test passes.
use Rattle.std.proofs.lemmas.Grind.{common_steps}
use Rattle.std.proofs.Common.{◌≡◌, ℕ, zero, suc, ◌≤◌, ◌<◌, ◌==◌, ◌&&◌, Bool, true, false, true≢false, if◌then◌else◌}
use Rattle.std.proofs.Common.{List, [], ◌∷◌, ◌++◌, length, take, refl, sym, ap, ◌∙◌, subst, arith, take-take, Option}
use Rattle.std.proofs.Common.{Some, None}
use Rattle.std.specs.List.{list_all}
use Rattle.std.proofs.lemmas.Bool.{and_parts}
use Rattle.rustc_lexer.specs.laws.Choice.{by_either}
use Rattle.rustc_lexer.specs.laws.Least.{one_more-none}
use Rattle.rustc_lexer.specs.model.Least.{one_more, least}
use Rattle.rustc_lexer.specs.model.Scan.{begins, next_is, run_len}

-- ---- texts that start with the same characters

pub cut : {A : Type 0} (j k : ℕ) (u s : List A) → j ≤ k → take k u ≡ take k s → take j u ≡ take j s
cut j k u s le e = sym (take-take j k u le) ∙ (ap (take j) e ∙ take-take j k s le)

pub past : (k : ℕ) (w s u : List ℕ) → take k u ≡ take k s → take k (w ++ u) ≡ take k (w ++ s)
past k [] s u e = e
past zero (c ∷ w) s u e = refl
past (suc k) (c ∷ w) s u e = ap (λ (xs : List ℕ). c ∷ xs) (past k w s u (cut k (suc k) u s (omega arith) e))

-- Holds if the first k characters of a text decide the value of f.
abbrev pub IsDecidedBy : {B : Type 0} → ℕ → (List ℕ → B) → Type 0
IsDecidedBy k f = (s : List ℕ) → f (take k s) ≡ f s

pub decided_same : {B : Type 0} (j k : ℕ) (f : List ℕ → B) (u s : List ℕ) → IsDecidedBy j f → j ≤ k
    → take k u ≡ take k s → f u ≡ f s
decided_same j k f u s decided le e = sym (decided u) ∙ (ap f (cut j k u s le e) ∙ decided s)

pub next_is-decided : (p : ℕ → Bool) → IsDecidedBy 1 (next_is p)
next_is-decided p = grind (arith, common_steps)

pub next_is-length : (p : ℕ → Bool) (s : List ℕ) → next_is p s ≡ true → 1 ≤ length s
next_is-length p s w2 = grind (arith, common_steps)

pub begins-decided : (p : List ℕ) → IsDecidedBy (length p) (begins p)
begins-decided [] s = refl
begins-decided (c ∷ cs) [] = refl
begins-decided (c ∷ cs) (d ∷ s) = ap (λ b. d == c && b) (begins-decided cs s)

pub begins-length : (p s : List ℕ) → begins p s ≡ true → length p ≤ length s
begins-length [] s e = omega arith
begins-length (c ∷ cs) [] e = absurd (true≢false (sym e))
begins-length (c ∷ cs) (d ∷ s) e = omega (arith, begins-length cs s (and_parts (d == c) (begins cs s) e).1)

-- ---- runs

pub run_len_le : (p : ℕ → Bool) (s : List ℕ) → run_len p s ≤ length s
run_len_le p [] = omega arith
run_len_le p (c ∷ cs) =
    elim (p c) as (λ b. if◌then◌else◌ b (suc (run_len p cs)) 0 ≤ suc (length cs))
    [ true ↦ omega (arith, run_len_le p cs) | false ↦ omega arith ]

pub run_len-in : (p : ℕ → Bool) (c : ℕ) (cs : List ℕ) → p c ≡ true → run_len p (c ∷ cs) ≡ suc (run_len p cs)
run_len-in p c cs e = rw e refl

pub run_len-out : (p : ℕ → Bool) (c : ℕ) (cs : List ℕ) → p c ≡ false → run_len p (c ∷ cs) ≡ 0
run_len-out p c cs e = rw e refl

-- A run is not empty exactly if the next character is in its class.
pub run_len-next : (p : ℕ → Bool) (s : List ℕ) → next_is p s ≡ true → 0 < run_len p s
run_len-next p [] t = absurd (true≢false (sym t))
run_len-next p (c ∷ s) t = omega (arith, run_len-in p c s t)

pub run_len-none : (p : ℕ → Bool) (s : List ℕ) → next_is p s ≡ false → run_len p s ≡ 0
run_len-none p s w2 = grind (arith, common_steps, run_len-out)

-- All characters of a run are in its class.
pub run_all : (p : ℕ → Bool) (s : List ℕ) → list_all p (take (run_len p s) s) ≡ true
run_all p [] = refl
run_all p (c ∷ s) = grind (arith, common_steps, run_all p s)

-- ---- ends

-- Holds if n is the least number below `count` that passes the test.
pub record IsLeast (test : ℕ → Bool) (count n : ℕ) : Type 0 where
  pub below : n < count
  pub here : test n ≡ true
  pub before : (i : ℕ) → i < n → test i ≡ false

pub one_more-some : (o : Option ℕ) (n : ℕ) → one_more o ≡ Some n → (m : ℕ) × (o ≡ Some m) × (n ≡ suc m)
one_more-some o n w2 = grind (arith, common_steps)

pub least-some : (test : ℕ → Bool) (count n : ℕ) → least test count ≡ Some n → IsLeast test count n
least-some test zero n e = absurd (cc)
least-some test (suc count) n e = by_test (least-some (λ i. test (suc i)) count) (test 0) refl
  where
    by_test : ((m : ℕ) → least (λ i. test (suc i)) count ≡ Some m → IsLeast (λ i. test (suc i)) count m) → (b : Bool)
        → test 0 ≡ b → IsLeast test (suc count) n
    by_test ih true t =
        let first : Some 0 ≡ Some n = sym (rw t refl) ∙ e in
        let same : 0 ≡ n = cc in
        record {
          below = omega arith;
          here = subst (λ (i : ℕ). test i ≡ true) same t;
          before = λ i lt. absurd (omega arith);
        }
    by_test ih false t =
        let more : one_more (least (λ i. test (suc i)) count) ≡ Some n = sym (rw t refl) ∙ e in
        let m = one_more-some (least (λ i. test (suc i)) count) n more in
        let is = ih m.0 m.1 in
        record {
          below = omega (arith, is.below, m.2);
          here = subst (λ (i : ℕ). test i ≡ true) (sym m.2) is.here;
          before = λ i lt. before i (omega (arith, m.2)) is;
        }
      where
        before : {m : ℕ} (i : ℕ) → i < suc m → IsLeast (λ i. test (suc i)) count m → test i ≡ false
        before zero lt is = t
        before (suc i) lt is = is.before i (omega arith)

pub least-is : (test : ℕ → Bool) (count n : ℕ) → IsLeast test count n → least test count ≡ Some n
least-is test zero n is = absurd (let lt = is.below in omega arith)
least-is test (suc count) zero is = let h = is.here in rw h refl
least-is test (suc count) (suc n) is =
    let none : test 0 ≡ false = is.before 0 (omega arith) in
    let lt : n < count = let l = is.below in omega arith in
    rw none (ap one_more
    (least-is (λ i. test (suc i)) count n record
    { below = lt; here = is.here; before = λ i l. is.before (suc i) (omega arith) }))

pub least-none : (test : ℕ → Bool) (count : ℕ) → ((i : ℕ) → i < count → test i ≡ false) → least test count ≡ None
least-none test zero none = refl
least-none test (suc count) none =
    rw (none 0 (omega arith)) (ap one_more (least-none (λ i. test (suc i)) count (λ i lt. none (suc i) (omega arith))))

pub none-least : (test : ℕ → Bool) (count : ℕ) → least test count ≡ None → (i : ℕ) → i < count → test i ≡ false
none-least test zero e i lt = absurd (omega arith)
none-least test (suc count) e zero lt =
    by_either (test 0) (λ f. absurd (let found : Some 0 ≡ None = sym (rw f refl) ∙ e in cc)) (λ f. f)
none-least test (suc count) e (suc i) lt =
    by_either (test 0) (λ f. absurd (let found : Some 0 ≡ None = sym (rw f refl) ∙ e in cc))
    (λ f. none-least (λ i. test (suc i)) count (one_more-none (least (λ i. test (suc i)) count) (sym (rw f refl) ∙ e)) i
    (omega arith))
