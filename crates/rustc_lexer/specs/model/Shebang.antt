-- Model of the shebang line that a document can start with.
use Rattle.std.specs.Prelude.{ℕ, suc, ◌+◌, ◌||◌, Bool, true, false, if◌then◌else◌, List, [], ◌∷◌, drop, codes, Option}
use Rattle.std.specs.Prelude.{Some, None}
use Rattle.rustc_lexer.specs.{Token, TokenKind, LineComment, BlockComment, Whitespace, OpenBracket}
use Rattle.rustc_lexer.specs.LanguageText.{part, newest}
use Rattle.rustc_lexer.specs.model.Scan.{begins}
use Rattle.rustc_lexer.specs.model.Tokens.{read_tokens}

-- Whether the kind is whitespace, or a comment that is not a doc comment.
abbrev pub is_passed : TokenKind → Bool
is_passed Whitespace = true
is_passed (LineComment None) = true
is_passed (BlockComment None terminated) = true
is_passed kind = false

abbrev pub is_open_bracket : TokenKind → Bool
is_open_bracket OpenBracket = true
is_open_bracket kind = false

-- Whether these tokens after `#!` continue an attribute: whitespace and comments that are not doc comments, if any, and
-- then a bracket.
abbrev pub is_attribute : List Token → Bool
is_attribute [] = false
is_attribute (token ∷ tokens) =
    if is_passed token.kind then is_attribute tokens else is_open_bracket token.kind

-- Returns the length of the first line, which ends at a newline, at a carriage return and a newline, or with the text.
abbrev pub line_len : List ℕ → ℕ
line_len [] = 0
line_len (c ∷ s) =
    if begins (codes "\n") (c ∷ s) || begins (codes "\r\n") (c ∷ s) then 0 else suc (line_len s)

-- Returns the length of the shebang line, given the text after `#!`, or None if this is an attribute.
abbrev pub shebang_past : List ℕ → Option ℕ
shebang_past tail =
    if is_attribute (read_tokens (part newest) tail) then None else Some (2 + line_len tail)

-- Returns the length of the shebang line at the start of a text, or None if there is none.
unfoldable pub read_shebang : List ℕ → Option ℕ
read_shebang text = if begins (codes "#!") text then shebang_past (drop 2 text) else None
