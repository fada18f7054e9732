-- The loops over quoted text.
use Rattle.std.proofs.Common.{◌≡◌, ◌≢◌, ℕ, suc, ◌+◌, not, Bool, true, false, List, [], ◌∷◌, length, drop, refl}
use Rattle.std.proofs.Common.{arith, ◌<◌, Option, MatchOption, Bor}
use Rattle.std.specs.Str.{chars, IsUtf8}
use Rattle.memchr.specs.Find.{is_byte2}
use Rattle.std.proofs.lemmas.{Bool.{eqb-true, ne_eqb, not-false, or_cases, or_parts}, Grind.{common_steps}}
use Rattle.rustc_lexer.specs.model.{Scan.{begins, past, run_len, scanned}, Quoted.{double_quoted_string, is_lone}}
use Rattle.rustc_lexer.specs.laws.Scan.{run_len-stop}
use Rattle.rustc_lexer.specs.laws.Past.{past-zero, past-past, past-two, chars-past, IsUtf8-past, past_le}

-- The character after the run of a class is not in the class.
pub run_fails : (p : ℕ → Bool) (text left s : List ℕ) (c : ℕ) → IsUtf8 text → left ≡ past (run_len p (chars text)) text
    → chars left ≡ c ∷ s → p c ≡ false
run_fails p text left s c is e reads =
    run_len-stop p (chars text) c s (cc (chars-past (run_len p (chars text)) text is))

-- Skipping n + 1 characters is skipping one and then n.
pub past-suc : (n : ℕ) (text : List ℕ) → IsUtf8 text → past (suc n) text ≡ past n (past 1 text)
past-suc n text is = let one : suc n ≡ 1 + n = omega arith in cc (past-past n 1 text is)

-- Whether a character is neither a quote nor a backslash.
abbrev plain : ℕ → Bool
plain c = not (is_byte2 34 92 c)

quoted-plain : (s : List ℕ) → double_quoted_string s ≡ (
  (double_quoted_string (drop (run_len plain s) s)).0,
  run_len plain s + (double_quoted_string (drop (run_len plain s) s)).1,
)
quoted-plain [] = refl
quoted-plain (c ∷ s) = grind (arith, common_steps, or_parts, quoted-plain s)

module _ (text stop : List ℕ) (is : IsUtf8 text) (cut : stop ≡ past (run_len plain (chars text)) text) where
  pub stop-read : scanned double_quoted_string stop ≡ scanned double_quoted_string text
  stop-read = grind (arith, common_steps, chars-past, past-past, quoted-plain)

  pub at_backslash : (c : ℕ) (s : List ℕ) → chars stop ≡ c ∷ s → (c ≡ 34 → ⊥) → c ≡ 92
  at_backslash c s reads other = grind (arith, common_steps, run_fails, or_cases, not-false, eqb-true)

-- One character and a quote.
module _ (text tail : List ℕ) (c : ℕ) (is : IsUtf8 text) (reads : chars text ≡ c ∷ chars tail)
    (cut : tail ≡ past 1 text) where
  lone-is : (b : Bool) → c ≢ 92 → begins (39 ∷ []) (chars tail) ≡ b → is_lone (chars text) ≡ b
  lone-is b ne q = rw (reads, ne_eqb c 92 ne) q

  pub lone-found : c ≢ 92 → (o : Option (Bor (List ℕ)))
      → MatchOption o (begins (39 ∷ []) (chars tail) ≡ false) (λ t. (begins (39 ∷ []) (chars tail) ≡ true)
      × (t.now ≡ past 1 tail) × (length t.now < length tail))
      → MatchOption o (is_lone (chars text) ≡ false) (λ t. (is_lone (chars text) ≡ true) × (t.now ≡ past 2 text))
  lone-found w0 o w2 = grind (arith, common_steps, lone-is, past-two)

pub ruleset quoted_lemmas = (past-suc, past-zero, chars-past, IsUtf8-past, past_le)
