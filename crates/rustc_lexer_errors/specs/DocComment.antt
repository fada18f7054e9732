-- The contents of a doc comment: its text without the markers. In the words of the Rust Reference, an outer doc comment
-- is a line comment that starts with `///` or a block comment that starts with `/**`, and an inner doc comment is one that
-- starts with `//!` or `/*!`. A block comment ends with `*/`, if it is terminated.
use Rattle.std.specs.Prelude.{◌+◌, ◌-◌, ℕ, length, nat_eq, nat_le, Bool, true, false, ◌&&◌, if◌then◌else◌, List, []}
use Rattle.std.specs.Prelude.{codes, Option, Some, None}
use Rattle.std.specs.List.{ends_with, starts_with}
use Rattle.std.specs.declared.ops.Range.{Range}
use Rattle.rustc_lexer.specs.Classes.{Utf8}
use Rattle.rustc_lexer.specs.declared.token.DocStyle.{DocStyle}
use Rattle.rustc_lexer.specs.declared.token.DocStyle.TheVariants.{Outer, Inner}
use Rattle.rustc_lexer.specs.declared.token.TokenKind.{TokenKind}
use Rattle.rustc_lexer.specs.declared.token.TokenKind.TheVariants.{LineComment, BlockComment}

abbrev pub line_marker : DocStyle → List ℕ
line_marker Outer = codes "///"
line_marker Inner = codes "//!"

abbrev pub block_marker : DocStyle → List ℕ
block_marker Outer = codes "/**"
block_marker Inner = codes "/*!"

-- Returns the carriage return of a CRLF, if a line comment ends with one. Its newline is not part of the token.
abbrev pub line_end : Utf8 → List ℕ
line_end text = if ends_with nat_eq text (codes "\r") then codes "\r" else []

-- Returns the end marker of a block comment, from whether it is terminated.
abbrev pub block_end : Bool → List ℕ
block_end true = codes "*/"
block_end false = []

-- Returns the range between a start and an end of a text, or `None` if the text does not consist of the start, the range
-- and the end.
abbrev pub range_between : List ℕ → List ℕ → Utf8 → Option (Range ℕ)
range_between start end text =
    if nat_le (length start + length end) (length text)
    && (starts_with nat_eq text start && ends_with nat_eq text end)
    then Some (record { start = length start; end = length text - length end })
    else None

-- Returns the range of the contents of a doc comment, or `None` for any other token.
abbrev pub doc_comment_contents : TokenKind → Utf8 → Option (Range ℕ)
doc_comment_contents (LineComment (Some style)) text = range_between (line_marker style) (line_end text) text
doc_comment_contents (BlockComment (Some style) terminated) text =
    range_between (block_marker style) (block_end terminated) text
doc_comment_contents kind text = None
