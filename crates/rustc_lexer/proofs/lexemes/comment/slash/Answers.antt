use Rattle.std.proofs.Common.{List, codes, if◌then◌else◌, ℕ, sym, ◌∙◌}
use Rattle.rustc_lexer.specs.{TokenKind, Slash, model.{BlockComment.{block_comment}, Comment.{line_comment}}}
use Rattle.rustc_lexer.specs.model.Scan.{after, begins, gives}
use Rattle.rustc_lexer.specs.laws.Scan.{scanned-after, scanned-gives, scanned-yes, scanned-no}
use Rattle.rustc_lexer.proofs.lexemes.comment.slash.Goals as goal

-- Returns the token that starts with a slash, if it does not start a line comment.
abbrev other : List ℕ → TokenKind × ℕ
other s = if begins (codes "*") s then after 1 block_comment s else gives Slash s

pub returns-in-Some : goal.returns-in-Some
returns-in-Some c =
    c.line_comment.ensures ∙ sym (scanned-yes (begins (codes "/")) (after 1 line_comment) other _ c.in-Some.ensures.0
    ∙ scanned-after 1 line_comment _ _ c.utf8.rest c.in-Some.ensures.1)

pub returns-in-Some-strip : goal.returns-in-Some-strip
returns-in-Some-strip c =
    c.block_comment.ensures
    ∙ sym (scanned-no (begins (codes "/")) (after 1 line_comment) other _ c.in_default.ensures
    ∙ (scanned-yes (begins (codes "*")) (after 1 block_comment) (gives Slash) _ c.in-Some-strip.ensures.0
    ∙ scanned-after 1 block_comment _ _ c.utf8.rest c.in-Some-strip.ensures.1))

pub returns-in_default-strip : goal.returns-in_default-strip
returns-in_default-strip c =
    sym (scanned-no (begins (codes "/")) (after 1 line_comment) other _ c.in_default.ensures
    ∙ (scanned-no (begins (codes "*")) (after 1 block_comment) (gives Slash) _ c.in_default-strip.ensures
    ∙ scanned-gives Slash _ c.utf8.rest))
