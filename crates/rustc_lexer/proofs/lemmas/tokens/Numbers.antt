-- Numbers, as the code reads them.
use Rattle.std.proofs.Common.{◌≡◌, ◌<◌, ℕ, ◌+◌, Bool, true, false, List, [], ◌∷◌, take, drop, get_or, refl}
use Rattle.std.proofs.Common.{zero-add, arith}
use Rattle.std.specs.{Char.{is_ascii_digit, is_ascii_hexdigit}, List.{list_any}, Str.{chars, IsUtf8}}
use Rattle.std.proofs.lemmas.{Bool.{eqb-true}, Grind.{common_steps}}
use Rattle.unicode_ident.proofs.IdentLemmas.{is_xid_start-ascii}
use Rattle.rustc_lexer.specs.model.Number.{is_underscore, or_underscore, digits, is_exponent_letter, is_no_fraction}
use Rattle.rustc_lexer.specs.model.Scan.{begins, next_is, past, run_len, scanned}
use Rattle.rustc_lexer.proofs.lemmas.tokens.AsciiRuns.{next_byte}
use Rattle.rustc_lexer.specs.laws.LanguageRuns.{digit-small as ascii_digit-small}
use Rattle.rustc_lexer.specs.laws.Past.{IsUtf8-past, chars-past, past-past, past-zero}
use Rattle.rustc_lexer.specs.laws.Scan.{scanned-and_then, scanned-read_as}

-- Digits and underscores are ASCII.
pub digit-small : (b : ℕ) → or_underscore is_ascii_digit b ≡ true → b < 128
digit-small b e = grind (arith, common_steps, eqb-true)

pub hexdigit-small : (b : ℕ) → or_underscore is_ascii_hexdigit b ≡ true → b < 128
hexdigit-small b e = grind (arith, common_steps, eqb-true)

-- The code reads U+0000 at the end of a text; for a class without U+0000 it gets the same result.
pub next_is-first : (p : ℕ → Bool) (s : List ℕ) → p 0 ≡ false → next_is p s ≡ p (get_or s 0 0)
next_is-first p s w2 = grind (arith, common_steps)

-- U+0000, which the code reads at the end, does not prevent a fraction.
pub is_no_fraction-zero : is_no_fraction 0 ≡ false
is_no_fraction-zero = is_xid_start-ascii 0 (omega arith)

-- The first byte decides whether the first character is a digit.
pub digit_first : (text : List ℕ) → IsUtf8 text → is_ascii_digit (get_or (chars text) 0 0) ≡ next_is is_ascii_digit text
digit_first text is =
    cc (next_is-first is_ascii_digit (chars text) refl, next_byte is_ascii_digit ascii_digit-small text is)

-- No exponent starts with a dot.
pub dot_only : (s : List ℕ) → begins (46 ∷ []) s ≡ true → next_is is_exponent_letter s ≡ false
dot_only s e = grind (arith, common_steps, eqb-true)

-- A run of digits and underscores is its leading underscores and the run after them.
module _ (is_digit : ℕ → Bool) (none : is_digit 95 ≡ false) where
  run_len-past : (s : List ℕ) → run_len (or_underscore is_digit) s ≡ run_len is_underscore s + run_len
      (or_underscore is_digit) (drop (run_len is_underscore s) s)
  run_len-past [] = refl
  run_len-past (c ∷ s) = grind (arith, common_steps, eqb-true, zero-add, run_len-past s)

  list_any-past : (s : List ℕ) → list_any is_digit (take (run_len (or_underscore is_digit) s) s) ≡
      next_is is_digit (drop (run_len is_underscore s) s)
  list_any-past [] = refl
  list_any-past (c ∷ s) = grind (arith, common_steps, eqb-true, list_any-past s)

  pub digits-is : (text middle rest : List ℕ) (some : Bool) → is_digit 0 ≡ false → IsUtf8 text
      → middle ≡ past (run_len is_underscore (chars text)) text → some ≡ is_digit (get_or (chars middle) 0 0)
      → rest ≡ past (run_len (or_underscore is_digit) (chars middle)) middle
      → (some, rest) ≡ scanned (digits is_digit) text
  digits-is text middle rest some w4 is e f g =
      grind (arith, common_steps, chars-past, next_is-first, list_any-past, run_len-past, past-past)

pub ruleset number_lemmas = (
  next_is-first,
  is_no_fraction-zero,
  dot_only,
  chars-past,
  past-past,
  past-zero,
  IsUtf8-past,
  scanned-and_then,
  scanned-read_as,
)
