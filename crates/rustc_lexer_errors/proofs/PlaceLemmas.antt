-- The first and the last byte of a text that pass a test.
use Rattle.std.proofs.Common.{◌≡◌, ℕ, ◌+◌, ◌-◌, ◌<◌, ◌==◌, Bool, List, length, not, arith, Some, None}
use Rattle.std.proofs.Common.{IsCharBoundary, IsUtf8}
use Rattle.std.specs.List.{position_or_len}
use Rattle.std.proofs.lemmas.Bool.{eqb-true, false_from_ne_true, not_from_false, not_from_true}
use Rattle.std.proofs.lemmas.List.Sums.{position_or_len_is, suffix_len_is}
use Rattle.std.proofs.lemmas.{Str.{IsCharBoundary-start, IsCharBoundary-after_ascii}, Grind.{common_steps}}
use Rattle.memchr.specs.Find.{IsFirstByte, IsLastByte, is_byte}
use Rattle.rustc_lexer_errors.specs.Literal.{first_offset, last_offset}

pub first_found : (test : ℕ → Bool) (bytes text : List ℕ) (n : ℕ) → bytes ≡ text → IsFirstByte test bytes (Some n)
    → n ≡ position_or_len test text
first_found test bytes text n same found = grind (arith, common_steps, position_or_len_is, false_from_ne_true)

pub first_none : (test : ℕ → Bool) (bytes text : List ℕ) → bytes ≡ text → IsFirstByte test bytes None
    → length text ≡ position_or_len test text
first_none test bytes text same none =
    cc (position_or_len_is test bytes (length bytes) 0 (omega arith)
    (λ k low. false_from_ne_true _ (none k (omega arith) low)) (λ low. absurd (omega arith)))

module _ (b : ℕ) (bytes text : List ℕ) where
  pub place_found : (n : ℕ) → bytes ≡ text → IsFirstByte (is_byte b) bytes (Some n) → n ≡ first_offset b text
  unfolding first_offset
  place_found n same found = first_found (is_byte b) bytes text n same found

  pub place_none : bytes ≡ text → IsFirstByte (is_byte b) bytes None → length text ≡ first_offset b text
  unfolding first_offset
  place_none same none = first_none (is_byte b) bytes text same none

  pub last_found : (n : ℕ) → bytes ≡ text → IsLastByte (is_byte b) bytes (Some n) → n ≡ last_offset b text
  unfolding last_offset
  last_found n same found =
      let high = found.0.high in
      let back : n + 1 - 1 ≡ n = omega arith in
      let long = suffix_len_is (λ x. not (x == b)) bytes (n + 1) 0 (omega arith)
      (λ k low less. not_from_false _ (false_from_ne_true _ (found.0.after k low less)))
      (λ _. rw back (not_from_true _ found.1)) in
      let here : n ≡ last_offset b bytes = omega arith in cc

  pub last_none : bytes ≡ text → IsLastByte (is_byte b) bytes None → 0 ≡ last_offset b text
  unfolding last_offset
  last_none same none =
      let long = suffix_len_is (λ x. not (x == b)) bytes 0 0 (omega arith)
      (λ k low less. not_from_false _ (false_from_ne_true _ (none k low less))) (λ some. absurd (omega arith)) in
      let here : 0 ≡ last_offset b bytes = omega arith in cc

  -- The end of an ASCII byte is a char boundary.
  pub past_first : (n : ℕ) → bytes ≡ text → IsUtf8 text → b < 128 → IsFirstByte (is_byte b) bytes (Some n)
      → IsCharBoundary text (n + 1)
  past_first n same utf8 ascii found = grind (arith, common_steps, eqb-true, IsCharBoundary-after_ascii)

pub ruleset place_lemmas = (IsCharBoundary-start)
