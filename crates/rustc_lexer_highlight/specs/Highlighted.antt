-- The output for a whole text: its shebang line and its tokens, highlighted.
use Rattle.std.specs.Prelude.{ℕ, List, [], ◌∷◌, ◌++◌, take, drop, Option, Some, None}
use Rattle.rustc_lexer.specs.declared.edition.Edition.{Edition}
use Rattle.rustc_lexer.specs.declared.token.Token.{Token}
use Rattle.rustc_lexer.specs.declared.token.TokenKind.{TokenKind}
use Rattle.rustc_lexer.specs.Document.{document_tokens, byte_order_mark_len, tokens_start}
use Rattle.rustc_lexer_highlight.specs.declared.class.Class.{Class}
use Rattle.rustc_lexer_highlight.specs.declared.class.Class.TheVariants.{Comment, Plain}
use Rattle.rustc_lexer_errors.specs.declared.errors.TokenError.{TokenError}
use Rattle.rustc_lexer_highlight.specs.declared.format.Format.{Format}
use Rattle.rustc_literal_escaper.specs.declared.mode.Mode.{Mode}
use Rattle.rustc_lexer_highlight.specs.Class.{class_of}
use Rattle.rustc_lexer_errors.specs.TokenError.{token_error}
use Rattle.rustc_lexer_highlight.specs.Answers.{stretches_of}
use Rattle.rustc_lexer_errors.specs.Literal.{closed_mode}
use Rattle.rustc_lexer_highlight.specs.Literal.{parts_from}
use Rattle.rustc_lexer_highlight.specs.Part.{Part, Own, before_return, error_parts, return_part, with_markup}

-- Returns the parts of a terminated literal.
abbrev pub literal_parts : Mode → List ℕ → List Part
literal_parts mode text = parts_from 0 text (stretches_of mode text)

-- Returns the parts of a token: of a token with an error, a terminated literal, or a token with a single class.
abbrev pub parts_by : Option TokenError → Option Mode → Class → List ℕ → List Part
parts_by (Some error) mode class text = error_parts error class text
parts_by None (Some mode) class text = literal_parts mode text
parts_by None None class text = Own class text ∷ []

-- Returns the parts of a token in an edition, before the text `next`. The carriage return of a CRLF whose newline is in
-- `next` has no markup.
abbrev pub token_parts : Edition → TokenKind → List ℕ → List ℕ → List Part
token_parts edition kind text next =
    parts_by (token_error kind text edition) (closed_mode kind) (class_of kind text edition) (before_return text next)
    ++ return_part text next

abbrev pub parts : Edition → List ℕ → List Token → List Part
parts edition text [] = []
parts edition text (token ∷ tokens) =
    token_parts edition token.kind (take token.len text) (drop token.len text)
    ++ parts edition (drop token.len text) tokens

-- Returns the parts of the text before the first token: the byte order mark as plain text, and the shebang line as a
-- comment.
abbrev pub start_parts : List ℕ → List Part
start_parts start =
    Own Plain (take (byte_order_mark_len start) start) ∷ Own Comment (drop (byte_order_mark_len start) start) ∷ []

-- Returns the parts of a document in an edition.
abbrev pub document_parts : Edition → List ℕ → List Part
document_parts edition text =
    start_parts (take (tokens_start text) text)
    ++ parts edition (drop (tokens_start text) text) (document_tokens edition text)

-- Returns the output for some tokens of a text in an edition.
abbrev pub marked_tokens : Format → Edition → List ℕ → List Token → List ℕ
marked_tokens format edition text tokens = with_markup format (parts edition text tokens)

-- Returns the output for a whole document.
abbrev pub highlighted : Format → Edition → List ℕ → List ℕ
highlighted format edition text = with_markup format (document_parts edition text)
