-- Model of the pieces of a text.
use Rattle.std.specs.Prelude.{ℕ, ◌≡◌, ◌+◌, ◌<◌, ◌≤◌, ◌^◌, List, length, IsCharBoundary}
use Rattle.rustc_lexer.specs.{Token}
use Rattle.rustc_lexer.specs.Partition.{bound}

-- Holds if each boundary of the tokens is a char boundary of the text, if the first token starts at `start`.
abbrev pub AreBoundariesFrom : List ℕ → ℕ → List Token → Type 0
AreBoundariesFrom text start tokens =
    (k : ℕ) → k ≤ length tokens → IsCharBoundary text (start + bound tokens k)

-- Holds if the tokens extend from `start` to `end`, with char boundaries between them, in a text whose length fits in
-- 32 bits.
abbrev pub AreCut : List ℕ → ℕ → ℕ → List Token → Type 0
AreCut text start end tokens =
    (length text < 2 ^ 32) × AreBoundariesFrom text start tokens
    × (end ≡ start + bound tokens (length tokens))
