-- The result of reading a raw string, from the results for its parts.
use Rattle.std.proofs.Common.{◌≡◌, ℕ, suc, ◌+◌, ◌-◌, ◌≤◌, ◌==◌, ◌↔◌, IsTrue, slice_index, true, List, [], ◌∷◌, length}
use Rattle.std.proofs.Common.{take, arith, length-take, length-drop, Result}
use Rattle.std.specs.Str.{chars, IsUtf8}
use Rattle.std.proofs.{Math.{Seq.{drop-nil}, Bool.{and-true}}, lemmas.Str.{encodes-chars, length-le-encodes}}
use Rattle.std.proofs.lemmas.Grind.{common_steps}
use Rattle.rustc_lexer.specs.{RawStrError, model.Raw.{hash_run, raw_text, raw_starter, raw_read, StartsRaw}}
use Rattle.rustc_lexer.specs.model.Scan.{begins, past, scanned}
use Rattle.rustc_lexer.specs.laws.Past.{past-zero, past-past, chars-past, IsUtf8-cut, IsUtf8-past, length-past}
use Rattle.rustc_lexer.proofs.lemmas.tokens.Raw.{hash_len, quote_front}
use Rattle.rustc_lexer.specs.laws.Scan.{scanned-after}

-- `from` is the text after the first hashes, and `body` the text after the quote.
module _ (prefix : ℕ) (text from body : List ℕ) (is : IsUtf8 text) (from_is : from ≡ past (hash_run (chars text)) text)
    (opens : begins (34 ∷ []) (chars from) ≡ true) (body_is : body ≡ past 1 from) where
  opening : scanned (raw_read prefix) text ≡
      scanned (raw_text (hash_run (chars text)) (prefix + suc (hash_run (chars text)))) body
  opening =
      let utf8 : IsUtf8 from = IsUtf8-cut (hash_run (chars text)) text from is from_is in
      let reads : chars from ≡ 34 ∷ chars body =
      quote_front _ _ opens (cc (chars-past 1 from utf8)) in
      let starter = scanned-after (hash_run (chars text)) (raw_starter prefix (hash_run (chars text))) text from is
      from_is in
      grind (arith, common_steps, past-past, utf8, starter, reads)

  pub past_opening : (read : Result ℕ RawStrError) (left : List ℕ)
      → (read, left) ≡ scanned (raw_text (length text - length from) (prefix + (length text - length from) + 1)) body
      → (read, left) ≡ scanned (raw_read prefix) text
  past_opening read left f =
      let count : length text - length from ≡ hash_run (chars text) = hash_len text from is from_is in
      let before : prefix + hash_run (chars text) + 1 ≡ prefix + suc (hash_run (chars text)) = omega arith in
      rw (opening, ← before, ← count) f

-- The check of a raw string.
module _ (text rest : List ℕ) (p : ℕ) (is : IsUtf8 text) (rest_is : rest ≡ past p text) where
  pub prefix_fits : StartsRaw text p → p + length rest ≤ length text
  prefix_fits starts =
      grind (
        arith,
        common_steps,
        length-le-encodes (take p (chars text)),
        length-take p (chars text),
        length-past p text is,
        rest_is,
        length-drop,
      )

  -- The test for the letter r decides whether the text starts with a prefix of p + 1 characters.
  pub starts_is : (q : ℕ) → q ≡ suc p → IsTrue (slice_index (chars rest) 0 == 114) ↔ StartsRaw text q
  starts_is q same = grind (arith, common_steps, chars-past)

-- A text without characters is also the text after its first n characters.
pub past-nil : (n : ℕ) (text : List ℕ) → IsUtf8 text → chars text ≡ [] → past n text ≡ text
unfolding past
past-nil n text is none = cc (none, drop-nil {A = ℕ} n, encodes-chars text is)

pub past-none : (n : ℕ) (text : List ℕ) → n ≡ 0 → IsUtf8 text → past n text ≡ text
past-none n text none is = rw none (past-zero text is)

pub ruleset past_lemmas = (past-nil, past-none, past-past, IsUtf8-past)

pub ruleset opening_lemmas = (past-zero, past-past, chars-past, IsUtf8-past, hash_len, quote_front, and-true)
