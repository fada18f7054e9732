-- Model of comments.
use Rattle.std.specs.Prelude.{ℕ, ◌&&◌, not, if◌then◌else◌, List, codes, Option, Some, None}
use Rattle.rustc_lexer.specs.{DocStyle, TokenKind, Outer, Inner, LineComment, Slash}
use Rattle.rustc_lexer.specs.Classes.{is_inline}
use Rattle.rustc_lexer.specs.model.BlockComment.{block_comment}
use Rattle.rustc_lexer.specs.model.Scan.{after, begins, gives, run_len}

-- Returns the doc style of a comment, given the text after `//`. `!` starts an inner doc comment, and one more `/`, but
-- not two, starts an outer doc comment.
abbrev pub line_doc_style : List ℕ → Option DocStyle
line_doc_style s =
    if begins (codes "!") s then Some Inner else
    (if begins (codes "/") s && not (begins (codes "//") s) then Some Outer else None)

-- Lexes the text after `//`, up to the newline or the end of the text.
abbrev pub line_comment : List ℕ → TokenKind × ℕ
line_comment s = (LineComment (line_doc_style s), run_len is_inline s)

-- Lexes the text after `/`.
abbrev pub slash : List ℕ → TokenKind × ℕ
slash s =
    if begins (codes "/") s then after 1 line_comment s
    else (if begins (codes "*") s then after 1 block_comment s
    else gives Slash s)
