-- The text that scanners read, and the text that they leave.
use Rattle.std.proofs.Common.{◌≡◌, ℕ, zero, suc, ◌+◌, ◌-◌, ◌≤◌, ◌<◌, Bool, true, false, if◌then◌else◌, List, [], ◌∷◌}
use Rattle.std.proofs.Common.{length, drop, refl, sym, ap, ◌∙◌, arith}
use Rattle.std.specs.{Char.{encode_utf8}, Str.{chars, IsUtf8}}
use Rattle.std.proofs.lemmas.{Str.{encode_ascii}, Grind.{common_steps}}
use Rattle.rustc_lexer.specs.model.Scan.{bytes_of, after, and_then, gives, next_is, past, read_as, run_len, scanned}
use Rattle.rustc_lexer.specs.laws.CharSteps.{bytes_of-suc}
use Rattle.rustc_lexer.specs.laws.Choice.{by_either}
use Rattle.rustc_lexer.specs.laws.Past.{past-zero, past-past, chars-past, IsUtf8-past, length-past, past_le}

module _ {A : Type 0} where
  pub scanned-gives : (a : A) (text : List ℕ) → IsUtf8 text → scanned (gives a) text ≡ (a, text)
  scanned-gives a text is = ap (λ xs. (a, xs)) (past-zero text is)

  pub scanned-after : (n : ℕ) (scan : List ℕ → A × ℕ) (text rest : List ℕ) → IsUtf8 text → rest ≡ past n text
      → scanned (after n scan) text ≡ scanned scan rest
  scanned-after n scan text rest is e = grind (arith, common_steps, chars-past, past-past)

  pub scanned-yes : (test : List ℕ → Bool) (scan other : List ℕ → A × ℕ) (text : List ℕ) → test (chars text) ≡ true
      → scanned (λ s. if test s then scan s else other s) text ≡ scanned scan text
  scanned-yes test scan other text e = grind (arith, common_steps)

  pub scanned-no : (test : List ℕ → Bool) (scan other : List ℕ → A × ℕ) (text : List ℕ) → test (chars text) ≡ false
      → scanned (λ s. if test s then scan s else other s) text ≡ scanned other text
  scanned-no test scan other text e = grind (arith, common_steps)

  pub scanned-same : (scan other : List ℕ → A × ℕ) (text : List ℕ) → scan (chars text) ≡ other (chars text)
      → scanned scan text ≡ scanned other text
  scanned-same scan other text e = ap (λ (r : A × ℕ). (r.0, past r.1 text)) e

-- Two scanners in sequence give the result of the second one on the rest of the first.
pub scanned-and_then : {A B : Type 0} (scan : List ℕ → A × ℕ) (next : A → List ℕ → B × ℕ) (text rest : List ℕ) (a : A)
    → IsUtf8 text → (a, rest) ≡ scanned scan text
    → scanned (and_then scan next) text ≡ scanned (next a) rest
scanned-and_then {A} {B} scan next text rest a is e = grind (arith, common_steps, scanned-after)

pub scanned-read_as : {A B : Type 0} (f : A → B) (scan : List ℕ → A × ℕ) (text rest : List ℕ) (a : A)
    → (a, rest) ≡ scanned scan text → (f a, rest) ≡ scanned (read_as f scan) text
scanned-read_as {A} f scan text rest a e = ap (λ (r : A × List ℕ). (f r.0, r.1)) e

-- A run ends before a character outside its class.
pub run_len-stop : (p : ℕ → Bool) (s : List ℕ) (c : ℕ) (u : List ℕ) → drop (run_len p s) s ≡ c ∷ u → p c ≡ false
run_len-stop p [] c u e = absurd (cc)
run_len-stop p (d ∷ s) c u e = by_either (p d)
    (λ f. run_len-stop p s c u (ap (λ (b : Bool). drop (if b then suc (run_len p s) else 0) (d ∷ s)) (sym f) ∙ e))
    (λ f.
    let same : d ∷ s ≡ c ∷ u = ap (λ (b : Bool). drop (if b then suc (run_len p s) else 0) (d ∷ s)) (sym f) ∙ e in
    let head : d ≡ c = cc in
    ap p (sym head) ∙ f)

-- Characters of a class within ASCII have one byte each.
module _ (p : ℕ → Bool) (small : (c : ℕ) → p c ≡ true → c < 128) where
  pub bytes-run : (n : ℕ) (s : List ℕ) → n ≤ run_len p s → bytes_of n s ≡ n
  bytes-run zero s le = refl
  bytes-run (suc n) [] le = absurd (omega arith)
  bytes-run (suc n) (c ∷ s) le = by_either (p c)
      (λ e.
      let more : run_len p (c ∷ s) ≡ suc (run_len p s) = rw e refl in
      let one : length (encode_utf8 c) ≡ 1 = ap length (encode_ascii c (small c e)) in
      let rest : bytes_of n s ≡ n = bytes-run n s (omega arith) in
      bytes_of-suc n c s ∙ omega arith)
      (λ e. let none : run_len p (c ∷ s) ≡ 0 = rw e refl in absurd (omega arith))

  pub length-run : (text rest : List ℕ) → IsUtf8 text → rest ≡ past (run_len p (chars text)) text
      → length text - length rest ≡ run_len p (chars text)
  length-run text rest is e =
      let n : ℕ = run_len p (chars text) in
      let one : bytes_of n (chars text) ≡ n = bytes-run n (chars text) (omega arith) in
      let all : n + length rest ≡ length text = ap (λ (k : ℕ). k + length rest) (sym one)
      ∙ (ap (λ (xs : List ℕ). bytes_of n (chars text) + length xs) e ∙ length-past n text is) in
      omega arith

-- The next character of a text is the first of its characters.
pub next_is-cons : (p : ℕ → Bool) (c : ℕ) (s cs : List ℕ) → cs ≡ c ∷ s → next_is p cs ≡ p c
next_is-cons p c s cs e = ap (next_is p) e

pub next_is-nil : (p : ℕ → Bool) (cs : List ℕ) → cs ≡ [] → next_is p cs ≡ false
next_is-nil p cs e = ap (next_is p) e

-- The lemmas for sequences of scanners.
pub ruleset scan_lemmas =
    (next_is-cons, next_is-nil, past-zero, past-past, chars-past, IsUtf8-past, length-past, past_le)
