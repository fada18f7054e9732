-- Guarded strings: the model reads exactly the language.
use Rattle.std.proofs.Common.{◌≡◌, ◌↔◌, ℕ, zero, suc, ◌+◌, ◌<◌, ◌≤◌, ◌==◌, min, inl, inr, Bool, true, false}
use Rattle.std.proofs.Common.{if◌then◌else◌, List, [], ◌∷◌, ◌++◌, length, take, drop, codes, refl, sym, ap, ◌∙◌, subst}
use Rattle.std.proofs.Common.{arith, append_assoc, length-append, take-append-drop, Option, Some}
use Rattle.std.proofs.Math.Nat.{min-le_left, min-le_right, min-eq_left, min-eq_right}
use Rattle.std.proofs.{Math.Seq.{take-append_seam, drop-append_seam}, lemmas.Bool.{cases_lt, eqb-true, or_from}}
use Rattle.std.specs.Str.{chars}
use Rattle.std.proofs.{Math.Bool.{or-false}, lemmas.Grind.{common_steps}}
use Rattle.rustc_lexer.specs.{GuardedStr}
use Rattle.rustc_lexer.specs.Classes.{is_among, NextIsNot, bytes}
use Rattle.rustc_lexer.specs.model.Guarded as spec
use Rattle.rustc_lexer.specs.model.Guarded.{closing_len, guarded_body, string_past, guarded_by}
use Rattle.rustc_lexer.specs.LiteralGrammar.{hashes, IsDoubleQuoted, IsSuffixBefore}
use Rattle.rustc_lexer.specs.LanguageCalls as the
use Rattle.rustc_lexer.specs.LanguageCalls.{IsGuardedBefore}
use Rattle.rustc_lexer.specs.State as holds
use Rattle.rustc_lexer.specs.State.{TakesGuarded, State}
use Rattle.rustc_lexer.specs.model.Literal.{suffix_len}
use Rattle.rustc_lexer.specs.model.Quoted.{double_quoted_string}
use Rattle.rustc_lexer.specs.model.Raw.{is_hash, is_quote, hash_run}
use Rattle.rustc_lexer.specs.model.Scan.{bytes_of, next_is}
use Rattle.rustc_lexer.specs.laws.Choice.{by_either}
use Rattle.rustc_lexer.specs.laws.LanguageLiterals.{suffix-sound, suffix-read}
use Rattle.rustc_lexer.specs.laws.LanguageQuoted.{double-read, double-sound}
use Rattle.rustc_lexer.specs.laws.LanguageRaw.{guard-length, guard-hashes, hash_run-hashes, split-hashes, guarded}
use Rattle.rustc_lexer.specs.laws.LanguageRuns.{run-stops}

-- ---- hashes

same-class : (s : List ℕ) → next_is (is_among (codes "#")) s ≡ next_is is_hash s
same-class s = grind (arith, common_steps, or-false)

no-hash : (s : List ℕ) → NextIsNot (is_among (codes "\"#")) s → NextIsNot is_hash s
no-hash w0 e = grind (arith, common_steps)

no-quote : (s : List ℕ) → NextIsNot (is_among (codes "\"#")) s → next_is is_quote s ≡ false
no-quote w0 e = grind (arith, common_steps)

past-guard : (n : ℕ) (s : List ℕ) → drop n (hashes n ++ s) ≡ s
past-guard n s = ap (λ (m : ℕ). drop m (hashes n ++ s)) (sym (guard-length n)) ∙ drop-append_seam (hashes n) s

past-one : (n c : ℕ) (s : List ℕ) → drop (suc n) (hashes n ++ c ∷ s) ≡ s
past-one zero c s = refl
past-one (suc n) c s = past-one n c s

-- ---- the model reads every guarded string

-- After its hashes and its quote, a string ends where its body ends.
string-past : (n : ℕ) (y : List ℕ) (t : Bool) (m : ℕ) → guarded_body n y ≡ (t, m) → string_past n (hashes n ++ 34 ∷ y) ≡
    Some (t, bytes_of (suc n + m) (hashes n ++ 34 ∷ y))
string-past n y t m e = grind (arith, common_steps, past-guard, past-one)

body-closed : (n : ℕ) (w z : List ℕ) → double_quoted_string (w ++ z) ≡ (true, length w)
    → guarded_body n (w ++ z) ≡ (true, length w + closing_len n z)
body-closed n w z e = grind (arith, common_steps, drop-append_seam)

body-open : (n : ℕ) (w z : List ℕ) → double_quoted_string (w ++ z) ≡ (false, length w)
    → guarded_body n (w ++ z) ≡ (false, length w + 0)
body-open n w z e =
    ap (λ (r : Bool × ℕ). let q : Bool × ℕ = (r.0, r.1 + (if r.0 then closing_len n (drop r.1 (w ++ z)) else 0)) in q) e

closing-read : {n k : ℕ} {suffix next : List ℕ} → k ≤ n → (k < n → NextIsNot (is_among (codes "#")) (suffix ++ next))
    → IsSuffixBefore next suffix → closing_len n (hashes k ++ (suffix ++ next)) ≡ k + length suffix
closing-read {n} {k} {suffix} {next} le stop is =
    grind (
      arith,
      common_steps,
      cases_lt,
      guard-hashes,
      same-class,
      min-eq_right,
      min-eq_left,
      hash_run-hashes,
      past-guard,
      suffix-read,
    )

record GuardedRead (n : ℕ) (t : Bool) (w next : List ℕ) : Type 0 where
  count : hash_run (w ++ next) ≡ n
  read : string_past n (w ++ next) ≡ Some (t, bytes w)

-- The model reads hashes, a quote, and the body of a guarded string.
read-parts : (n : ℕ) (t : Bool) (v next : List ℕ) (m : ℕ) → guarded_body n (v ++ next) ≡ (t, m) → m ≡ length v
    → GuardedRead n t (hashes n ++ 34 ∷ v) next
read-parts n t v next m e f =
    let text : (hashes n ++ 34 ∷ v) ++ next ≡ hashes n ++ 34 ∷ (v ++ next) = append_assoc (hashes n) (34 ∷ v) next in
    let size : suc n + m ≡ length (hashes n ++ 34 ∷ v) =
    omega (arith, length-append (hashes n) (34 ∷ v), guard-length n, f) in
    let taken : bytes_of (suc n + m) (hashes n ++ 34 ∷ (v ++ next)) ≡ bytes (hashes n ++ 34 ∷ v) =
    ap (bytes_of (suc n + m)) (sym text)
    ∙ (ap (λ (k : ℕ). bytes_of k ((hashes n ++ 34 ∷ v) ++ next)) size
    ∙ ap bytes (take-append_seam (hashes n ++ 34 ∷ v) next)) in
    record {
      count = ap hash_run text ∙ guard-hashes n (34 ∷ (v ++ next)) refl;
      read = ap (string_past n) text
          ∙ (string-past n (v ++ next) t m e ∙ ap (λ (k : ℕ). let r : Option (Bool × ℕ) = Some (t, k) in r) taken);
    }

guarded-read : {next : List ℕ} {n : ℕ} {t : Bool} {w : List ℕ} → IsGuardedBefore next n t w → GuardedRead n t w next
guarded-read {next} (the.closed n k {w} {suffix} q le stop is) =
    let text : (w ++ (hashes k ++ suffix)) ++ next ≡ w ++ (hashes k ++ (suffix ++ next)) =
    append_assoc w (hashes k ++ suffix) next ∙ ap (λ (x : List ℕ). w ++ x) (append_assoc (hashes k) suffix next) in
    read-parts n true (w ++ (hashes k ++ suffix)) next (length w + closing_len n (hashes k ++ (suffix ++ next)))
    (ap (guarded_body n) text ∙ body-closed n w (hashes k ++ (suffix ++ next)) (double-read q))
    (omega (
      arith,
      closing-read le stop is,
      length-append w (hashes k ++ suffix),
      length-append (hashes k) suffix,
      guard-length k,
    ))
guarded-read {next} (the.unclosed n {w} q) =
    read-parts n false w next (length w + 0) (body-open n w next (double-read q)) (omega arith)

takes-read : {s : State} {r : Option GuardedStr × State} → TakesGuarded s r → r ≡ spec.take_guarded s
unfolding spec.take_guarded
takes-read {s} (holds.string {n} {terminated} {w} {next} e is) = grind (arith, common_steps, guarded-read)
takes-read {s} (holds.none n next e stop) = grind (arith, common_steps, guard-hashes, no-hash, past-guard, no-quote)

-- ---- the model always has a result

record Taken (s : State) : Type 0 where
  answer : Option GuardedStr × State
  is : TakesGuarded s answer

taken : (s : State) → Taken s
taken s = let g = guarded (chars s.rest) in by_left g.count g.left (sym g.whole) g.stops
  where
    by_string : (n : ℕ) (u : List ℕ) (t : Bool) (m : ℕ) → chars s.rest ≡ hashes n ++ 34 ∷ u
        → IsDoubleQuoted (drop m u) t (take m u) → Taken s
    by_string n u true m e is =
        let z : List ℕ = drop m u in
        let k : ℕ = min n (hash_run z) in
        let y : List ℕ = drop k z in
        let j : ℕ = suffix_len y in
        let parts : take j y ++ drop j y ≡ y = take-append-drop j y in
        let hashed : z ≡ hashes k ++ y = split-hashes k z (min-le_right n (hash_run z)) in
        let there : z ≡ hashes k ++ (take j y ++ drop j y) = hashed ∙ ap (λ (x : List ℕ). hashes k ++ x) (sym parts) in
        let body : (take m u ++ (hashes k ++ take j y)) ++ drop j y ≡ u =
        append_assoc (take m u) (hashes k ++ take j y) (drop j y)
        ∙ (ap (λ (x : List ℕ). take m u ++ x) (append_assoc (hashes k) (take j y) (drop j y) ∙ sym there)
        ∙ take-append-drop m u) in
        let whole : chars s.rest ≡ (hashes n ++ (34 ∷ take m u ++ (hashes k ++ take j y))) ++ drop j y =
        e ∙ sym (append_assoc (hashes n) (34 ∷ take m u ++ (hashes k ++ take j y)) (drop j y)
        ∙ ap (λ (x : List ℕ). hashes n ++ 34 ∷ x) body) in
        let stop : k < n → NextIsNot (is_among (codes "#")) (take j y ++ drop j y) =
        λ lt. subst (NextIsNot (is_among (codes "#"))) (sym parts)
        (same-class y ∙ subst (λ (i : ℕ). NextIsNot is_hash (drop i z)) (all lt) (run-stops is_hash z)) in
        record {
          answer = _;
          is = holds.string whole
              (the.closed n k (subst (λ (x : List ℕ). IsDoubleQuoted x true (take m u)) there is)
              (min-le_left n (hash_run z)) stop (suffix-sound y));
        }
      where
        all : min n (hash_run (drop m u)) < n → hash_run (drop m u) ≡ min n (hash_run (drop m u))
        all lt = elim (cases_lt (hash_run (drop m u)) n) [
          | inl less ↦ sym (min-eq_right (omega arith))
          | inr more ↦ absurd (let same : min n (hash_run (drop m u)) ≡ n = min-eq_left more in omega (arith, same, lt))
        ]
    by_string n u false m e is =
        let whole : chars s.rest ≡ (hashes n ++ (34 ∷ take m u)) ++ drop m u =
        e ∙ sym (append_assoc (hashes n) (34 ∷ take m u) (drop m u)
        ∙ ap (λ (x : List ℕ). hashes n ++ 34 ∷ x) (take-append-drop m u)) in
        record { answer = _; is = holds.string whole (the.unclosed n is) }

    by_left : (n : ℕ) (v : List ℕ) → chars s.rest ≡ hashes n ++ v → NextIsNot is_hash v → Taken s
    by_left n [] e stop = record { answer = _; is = holds.none n [] e refl }
    by_left n (c ∷ u) e stop = by_either (c == 34)
        (λ f. by_string n u (double_quoted_string u).0 (double_quoted_string u).1
        (e ∙ ap (λ (x : ℕ). hashes n ++ x ∷ u) (eqb-true c 34 f)) (double-sound u))
        (λ f. record {
          answer = _;
          is = holds.none n (c ∷ u) e (or_from (c == 34) _ f (or_from (c == 35) false stop refl));
        })

-- The model's result is the only result that the language allows.
pub guarded-answer : (s : State) (other : Option GuardedStr × State) → TakesGuarded s other
    ↔ (other ≡ spec.take_guarded s)
guarded-answer s other = (
  λ is. takes-read is,
  λ e. let h = taken s in
      subst (TakesGuarded s) (takes-read h.is ∙ sym e) h.is,
)
