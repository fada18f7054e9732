-- The tokens of a text that is lexed with a grammar, and their boundaries. Here a grammar is a function that returns
-- the first token of each text.
use Rattle.std.specs.Prelude.{ℕ, zero, suc, ◌≡◌, ◌+◌, ◌<◌, ◌≤◌, List, [], ◌∷◌, ◌++◌, length, drop, All, IsCharBoundary}
use Rattle.rustc_lexer.specs.{Token}

-- Returns the first `count` tokens of a text.
abbrev pub cut_by : (List ℕ → Token) → ℕ → List ℕ → List Token
cut_by first zero text = []
cut_by first (suc count) [] = []
cut_by first (suc count) (b ∷ bs) =
    first (b ∷ bs) ∷ cut_by first count (drop (first (b ∷ bs)).len (b ∷ bs))

-- Returns the tokens of a text, which has at most as many tokens as bytes.
unfoldable pub tokens_by : (List ℕ → Token) → List ℕ → List Token
tokens_by first text = cut_by first (length text) text

-- Returns the offset of token boundary k, which is the sum of the lengths of the first k tokens. Boundary 0 is at
-- offset 0.
abbrev pub bound : List Token → ℕ → ℕ
bound tokens zero = 0
bound [] (suc k) = 0
bound (t ∷ ts) (suc k) = t.len + bound ts k

-- Holds if the tokens partition the text: no token is empty, each token ends on a char boundary, and the lengths of the
-- tokens add up to the length of the text.
pub record Partitions (text : List ℕ) (tokens : List Token) : Type 0 where
  pub not_empty : All (λ t. 0 < t.len) tokens
  pub boundaries : (k : ℕ) → k ≤ length tokens → IsCharBoundary text (bound tokens k)
  pub whole : bound tokens (length tokens) ≡ length text

-- A layout consists of the offset where the first token of a text starts, the tokens of the head, and the tokens of the
-- body, which follow them. Only a document can have a head; a fragment has none.
pub record Layout : Type 0 where
  pub start : ℕ
  pub head : List Token
  pub body : List Token

-- Returns all tokens of a layout.
abbrev pub tokens_in : Layout → List Token
tokens_in of = of.head ++ of.body
