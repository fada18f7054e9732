-- The whitespace and comments before the code of a text.
use Rattle.std.specs.Prelude.{ℕ, Bool, true, false, if◌then◌else◌, List, [], ◌∷◌, drop}
use Rattle.rustc_lexer.specs.declared.token.Token.{Token}
use Rattle.rustc_lexer.specs.declared.token.TokenKind.{TokenKind}
use Rattle.rustc_lexer.specs.declared.token.TokenKind.TheVariants.{Whitespace, LineComment, BlockComment}

-- Whether a token is whitespace or a comment.
abbrev pub is_skipped : TokenKind → Bool
is_skipped Whitespace = true
is_skipped (LineComment doc_style) = true
is_skipped (BlockComment doc_style terminated) = true
is_skipped kind = false

-- The code of a text follows the whitespace and the comments at its start.
abbrev pub past_comments : List ℕ → List Token → List ℕ
past_comments text [] = []
past_comments text (token ∷ tokens) =
    if is_skipped token.kind then past_comments (drop token.len text) tokens else text
