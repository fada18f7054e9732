-- Model of the tokens of a text.
use Rattle.std.specs.Prelude.{ℕ, zero, suc, ◌≡◌, List, [], ◌∷◌, ◌++◌, length, take, drop, map, min}
use Rattle.rustc_lexer.specs.{Edition, Token}
use Rattle.rustc_lexer.specs.Partition.{tokens_by}
use Rattle.rustc_lexer.specs.LanguageText.{Mode, source, part, mode_after}
use Rattle.rustc_lexer.specs.model.Edition.{first_token_in}
use Rattle.rustc_lexer.specs.model.Taking.{token_at}

-- Returns the tokens of a text, and lexes at most `count` of them as source. Each token determines the mode of the text
-- after it.
abbrev pub cut : Mode → ℕ → List ℕ → List Token
cut (part edition) count text = tokens_by (first_token_in edition) text
cut (source edition) zero text = []
cut (source edition) (suc count) [] = []
cut (source edition) (suc count) (b ∷ bs) =
    let token : Token = token_at (source edition) (b ∷ bs) in
    token ∷ cut (mode_after (source edition) token.kind) count (drop token.len (b ∷ bs))

-- Returns the tokens of source, which has at most as many tokens as bytes.
unfoldable pub tokens_of_source : Edition → List ℕ → List Token
tokens_of_source edition text = cut (source edition) (length text) text

-- Returns the tokens of a text.
abbrev pub read_tokens : Mode → List ℕ → List Token
read_tokens (part edition) text = tokens_by (first_token_in edition) text
read_tokens (source edition) text = tokens_of_source edition text

-- Holds if the start of the buffer contains the first tokens that are left, each converted by `written`. These are all
-- tokens, or as many as the buffer has room for. The rest of the buffer is unchanged.
pub record IsFilled {X : Type 0} (written : Token → X) (left : List Token) (buffer filled : List X)
    (count : ℕ) : Type 0 where
  pub as_many : count ≡ min (length buffer) (length left)
  pub tokens : filled ≡ map written (take count left) ++ drop count buffer
