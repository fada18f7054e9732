-- The text that a token can depend on, and which tokens of a growing text are final.
use Rattle.std.specs.Prelude.{ℕ, ◌≡◌, ◌-◌, ◌<◌, ◌≤◌, List, ◌++◌, length, take, drop, IsCharBoundary, Bool, true, nat_le}
use Rattle.std.specs.Prelude.{chars}
use Rattle.rustc_lexer.specs.{Token}
use Rattle.rustc_lexer.specs.Classes.{IsText}
use Rattle.rustc_lexer.specs.Partition.{bound}

-- Holds if the two texts agree before `offset`, and in the two characters after it. If one text has fewer than two
-- characters after `offset`, the other text ends at the same position.
pub record AgreePast (offset : ℕ) (text other : List ℕ) : Type 0 where
  pub below : take offset text ≡ take offset other
  pub past : take 2 (chars (drop offset text)) ≡ take 2 (chars (drop offset other))

-- A grammar consists of a function that returns the first token of each text, and a number that identifies the grammar.
-- Two editions can lex identically, and then only the number shows which edition a stepper has.
pub record Grammar : Type 0 where
  pub first : List ℕ → Token
  pub id : ℕ

-- Holds if the grammar obeys its law: the first token of a nonempty text is not empty, ends on a char boundary, and is
-- also the first token of every text that agrees with this text up to two characters after the token (`AgreePast`).
pub record IsGrammar (first : List ℕ → Token) : Type 0 where
  pub not_empty : (text : List ℕ) → IsText text → 0 < length text → 0 < (first text).len
  pub boundary : (text : List ℕ) → IsText text → 0 < length text
      → IsCharBoundary text (first text).len
  pub local : (text other : List ℕ) → IsText text → IsText other → 0 < length text
      → AgreePast (first text).len text other → first other ≡ first text

-- Whether at least two characters start in the bytes from `from` up to `to`.
unfoldable pub has_two : List ℕ → ℕ → ℕ → Bool
has_two text from to = nat_le 2 (length (chars (take (to - from) (drop from text))))

-- Holds if `offset` is the last token boundary with at least two characters after it, or 0 if there is no such
-- boundary.
pub record IsSettled (text : List ℕ) (tokens : List Token) (offset : ℕ) : Type 0 where
  pub at_bound : (k : ℕ) × (k ≤ length tokens) × (bound tokens k ≡ offset)
  pub two : 0 < offset → has_two text offset (length text) ≡ true
  pub last : (k : ℕ) → k ≤ length tokens → has_two text (bound tokens k) (length text) ≡ true
      → bound tokens k ≤ offset

-- Holds if the tokens up to `offset` are final: whatever is appended to the text, they remain its first tokens.
abbrev pub StaysUpTo : ℕ → List ℕ → (List ℕ → List Token) → Type 0
StaysUpTo offset text tokens =
    (more : List ℕ) (k : ℕ) → IsText (text ++ more) → k ≤ length (tokens text)
    → bound (tokens text) k ≤ offset
    → take k (tokens (text ++ more)) ≡ take k (tokens text)

-- Holds if any two texts that agree up to two characters after token boundary k of one of them (`AgreePast`) have the
-- same first k tokens.
abbrev pub AreLocal : (List ℕ → List Token) → Type 0
AreLocal tokens =
    (text other : List ℕ) (k : ℕ) → IsText text → IsText other → k ≤ length (tokens text)
    → AgreePast (bound (tokens text) k) text other
    → take k (tokens other) ≡ take k (tokens text)
