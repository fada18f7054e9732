-- Lemmas about writing pieces, one after another.
use Rattle.std.proofs.{lemmas.Grind.{common_steps}, Common.{◌≡◌, List, ◌∷◌, ◌++◌, ℕ, ap, arith}}
use Rattle.std.specs.Fmt.{WritesInCalls}
use Rattle.rustc_lexer.specs.LexedText.{PieceModel}
use Rattle.examples.specs.Repaint.{close_style, open_style, styled}

module _ {W : Type 0} (took : W → List ℕ → W → Type 0) where
  -- A call, followed by the calls that write the rest, writes both.
  writes_then : (w v u : W) (bs rest : List ℕ) → took w bs v → WritesInCalls took v rest u
      → WritesInCalls took w (bs ++ rest) u
  writes_then w v u bs rest call others =
      record { parts = bs ∷ others.parts; calls = (v, call, others.calls); whole = ap (λ xs. bs ++ xs) others.whole }

  -- Writing a piece in its style, and then the remaining pieces, writes all of them.
  pub writes_piece : (w0 w1 w2 w3 w : W) (left others : List PieceModel) (piece : PieceModel) (before text after : List ℕ)
      → left ≡ piece ∷ others → before ≡ open_style piece.token.kind → text ≡ piece.text
      → after ≡ close_style piece.token.kind
      → took w0 before w1 → took w1 text w2 → took w2 after w3
      → WritesInCalls took w3 (styled others) w → WritesInCalls took w0 (styled left) w
  writes_piece w0 w1 w2 w3 w left others piece before text after first opens is closes a b c d =
      grind (arith, common_steps, writes_then)
