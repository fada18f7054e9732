-- The model of finding the error of a frontmatter: by its first line and its last line.
use Rattle.std.specs.Prelude.{ℕ, Bool, ◌==◌, ◌&&◌, nat_eq, nat_lt, if◌then◌else◌, List, drop, codes}
use Rattle.std.specs.Prelude.{not, Option, Some, None}
use Rattle.std.specs.List.{after_last, list_any, prefix_len}
use Rattle.std.specs.Option.{option_or}
use Rattle.std.specs.Str.{byte, chars}
use Rattle.rustc_lexer.specs.Classes.{Chars, Utf8, begins, is_horizontal_whitespace, is_id_start, is_info, next_is}
use Rattle.rustc_literal_escaper.specs.Grammar.{is_newline}
use Rattle.rustc_lexer_errors.specs.declared.errors.TokenError.{TokenError}
use Rattle.rustc_lexer_errors.specs.declared.errors.TokenError.TheVariants.{UnclosedFrontmatter}
use Rattle.rustc_lexer_errors.specs.declared.errors.TokenError.TheVariants.{WhitespaceBeforeFrontmatter}
use Rattle.rustc_lexer_errors.specs.declared.errors.TokenError.TheVariants.{WhitespaceBeforeFrontmatterClose}
use Rattle.rustc_lexer_errors.specs.declared.errors.TokenError.TheVariants.{FrontmatterCloseMismatch}
use Rattle.rustc_lexer_errors.specs.declared.errors.TokenError.TheVariants.{ExtraAfterFrontmatterClose}
use Rattle.rustc_lexer_errors.specs.Frontmatter.{front_error, is_end}
use Rattle.rustc_lexer_errors.specs.TextError.{dashes, frontmatter_error, is_of}

-- Returns how many spaces and tabs the text starts with.
abbrev pub blanks : List ℕ → ℕ
blanks text = prefix_len (is_of (codes "\t ")) text

-- Returns the error of a line that should close a frontmatter whose opening fence has `opening` dashes.
abbrev pub closing_error : ℕ → List ℕ → Option TokenError
closing_error opening line =
    let rest = drop (blanks line) line in
    let tail = drop (dashes rest) rest in
    if nat_lt (dashes rest) 3 then Some UnclosedFrontmatter
    else if nat_lt 0 (blanks line) then Some WhitespaceBeforeFrontmatterClose
    else if not (nat_eq (dashes rest) opening) then Some (FrontmatterCloseMismatch opening (dashes rest))
    else if is_end (drop (blanks tail) tail) then None
    else Some ExtraAfterFrontmatterClose

-- Returns the error at the end of a frontmatter that starts with its dashes. A frontmatter of a single line is
-- unclosed.
abbrev pub end_error : List ℕ → Option TokenError
end_error text =
    if list_any is_newline text then closing_error (dashes text) (after_last is_newline text)
    else Some UnclosedFrontmatter

-- Returns the text after its longest prefix of characters in the class.
abbrev pub past_run : (ℕ → Bool) → Chars → Chars
past_run class s = drop (prefix_len class s) s

-- Returns the text after an infostring, or the whole text if it does not start with one.
abbrev pub past_infostring : Chars → Chars
past_infostring s = if next_is is_id_start s then past_run is_info (drop 1 s) else s

-- Whether a CRLF ends the first line of a frontmatter that starts with its dashes: only whitespace, or an infostring
-- with whitespace around it, is between the dashes and the CRLF.
abbrev pub has_crlf : Chars → Bool
has_crlf text =
    let name = past_run is_horizontal_whitespace (past_run (λ c. c == byte "-") text) in
    begins (codes "\r\n") (past_run is_horizontal_whitespace (past_infostring name))

-- Returns the error of a frontmatter, given the flags of its token.
abbrev pub error_in_front : Bool → Bool → Utf8 → Option TokenError
error_in_front space bad_label text =
    option_or
    (if space then Some WhitespaceBeforeFrontmatter
    else front_error (bad_label && not (has_crlf (chars text))) (end_error text))
    (frontmatter_error text)
