-- Model of block comments, starting after `/*`.
use Rattle.std.specs.Prelude.{ℕ, zero, suc, ◌&&◌, not, Bool, true, false, if◌then◌else◌, List, [], ◌∷◌, length, codes}
use Rattle.std.specs.Prelude.{Option, Some, None}
use Rattle.rustc_lexer.specs.{DocStyle, TokenKind, Outer, Inner, BlockComment}
use Rattle.rustc_lexer.specs.model.Least.{more}
use Rattle.rustc_lexer.specs.model.Scan.{begins}

-- Whether the text starts with `*/`, which closes a comment.
abbrev pub at_closing : List ℕ → Bool
at_closing s = begins (codes "*/") s

-- Whether the text starts with `/*`, which opens a nested comment.
abbrev pub at_opening : List ℕ → Bool
at_opening s = begins (codes "/*") s

-- Returns the number of characters up to the end of `depth` nested comments, or None if one of them is unterminated.
-- `*/` closes a comment, `/*` opens another, and any other character is skipped.
unfoldable pub out_of : ℕ → List ℕ → Option ℕ
out_of zero s = Some 0
out_of (suc depth) [] = None
out_of (suc depth) (c ∷ []) = None
out_of (suc depth) (c ∷ d ∷ s) =
    if at_closing (c ∷ d ∷ s) then more 2 (out_of depth s)
    else (if at_opening (c ∷ d ∷ s) then more 2 (out_of (suc (suc depth)) s)
    else more 1 (out_of (suc depth) (d ∷ s)))

-- Returns the length of the text up to the end of the comment, or None if the comment is unterminated.
abbrev pub comment_end : List ℕ → Option ℕ
comment_end s = out_of 1 s

-- Returns the doc style of the comment. `!` starts an inner doc comment, and one more `*` starts an outer doc comment
-- unless `*` or `/` follows it.
abbrev pub block_doc_style : List ℕ → Option DocStyle
block_doc_style s =
    if begins (codes "!") s then Some Inner
    else (if begins (codes "*") s && (not (begins (codes "**") s) && not (begins (codes "*/") s))
    then Some Outer else None)

-- Returns the kind and the length of the comment, given its end. An unterminated comment extends to the end of the
-- text.
abbrev pub block_comment_to : Option ℕ → List ℕ → TokenKind × ℕ
block_comment_to None s = (BlockComment (block_doc_style s) false, length s)
block_comment_to (Some n) s = (BlockComment (block_doc_style s) true, n)

-- Lexes the text after `/*`.
abbrev pub block_comment : List ℕ → TokenKind × ℕ
block_comment s = block_comment_to (comment_end s) s
