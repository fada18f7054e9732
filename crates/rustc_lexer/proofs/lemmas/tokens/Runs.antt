-- Runs of a class of characters, read from the front.
use Rattle.std.proofs.{lemmas.Grind.{common_steps}, Common.{◌≡◌, ℕ, Bool, true, false, List, [], ◌∷◌, refl, ◌∙◌, arith}}
use Rattle.std.specs.Str.{chars, IsUtf8}
use Rattle.rustc_lexer.specs.{model.Scan.{next_is, past, run_len}, laws.Past.{past-zero, past-past}}

-- After a character of the class the run continues.
pub run_on : (p : ℕ → Bool) (text tail : List ℕ) (c : ℕ) → IsUtf8 text → chars text ≡ c ∷ chars tail
    → tail ≡ past 1 text → p c ≡ true → past (run_len p (chars tail)) tail ≡ past (run_len p (chars text)) text
run_on p text tail c is reads cut e = grind (arith, common_steps, past-past)

-- The run is empty before any other character and at the end of the text.
pub run_ends : (p : ℕ → Bool) (text : List ℕ) → IsUtf8 text → next_is p (chars text) ≡ false
    → past (run_len p (chars text)) text ≡ text
run_ends p text is e = ends (chars text) e ∙ past-zero text is
  where
    ends : (cs : List ℕ) → next_is p cs ≡ false → past (run_len p cs) text ≡ past 0 text
    ends [] e = refl
    ends (c ∷ cs) e = rw e refl
