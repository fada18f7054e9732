-- Model of quoted text, starting after an opening quote.
use Rattle.std.specs.Prelude.{ℕ, suc, ◌==◌, ◌&&◌, ◌||◌, not, Bool, true, false, if◌then◌else◌, List, [], ◌∷◌, drop}
use Rattle.std.specs.Prelude.{codes}
use Rattle.std.specs.Str.{byte}
use Rattle.rustc_lexer.specs.declared.lexemes.quoted.QuotedPrefix.{QuotedPrefix}
use Rattle.rustc_lexer.specs.declared.lexemes.quoted.QuotedPrefix.TheVariants.{Single, BSingle, Double, BDouble}
use Rattle.rustc_lexer.specs.declared.lexemes.quoted.QuotedPrefix.TheVariants.{CDouble}
use Rattle.rustc_lexer.specs.{LiteralKind, TokenKind, Char, Byte, Str, ByteStr, CStr}
use Rattle.rustc_lexer.specs.model.Literal.{Body, literal}
use Rattle.rustc_lexer.specs.model.Scan.{after, begins, next_is}

abbrev pub is_backslash : ℕ → Bool
is_backslash c = c == byte "\\"

-- Adds one character to the length.
abbrev pub one_past : Bool × ℕ → Bool × ℕ
one_past read = (read.0, suc read.1)

-- Reads quoted text up to its first stop that is not escaped. Returns whether the text is terminated, and its length in
-- characters. If the stop is the quote, the text is terminated and includes the quote. If it is another stop, the text
-- is unterminated and ends before the stop. Without a stop, the text is everything that is left. A backslash that is
-- not escaped itself escapes the next character.
abbrev pub quoted_from : ℕ → (List ℕ → Bool) → Bool → List ℕ → Bool × ℕ
quoted_from quote stop escaped [] = (false, 0)
quoted_from quote stop escaped (c ∷ s) =
    if not escaped && stop (c ∷ s) then (if c == quote then (true, 1) else (false, 0))
    else one_past (quoted_from quote stop (if escaped then false else is_backslash c) s)

abbrev pub quoted : ℕ → (List ℕ → Bool) → List ℕ → Bool × ℕ
quoted quote stop s = quoted_from quote stop false s

-- Whether the text starts with a stop between double quotes, which is only the quote.
abbrev pub at_double_quote : List ℕ → Bool
at_double_quote s = next_is (λ c. c == byte "\"") s

abbrev pub double_quoted_string : List ℕ → Bool × ℕ
double_quoted_string s = quoted (byte "\"") at_double_quote s

-- Whether the text starts with a stop between single quotes: the quote, a slash, or a newline that no quote follows.
abbrev pub at_single_stop : List ℕ → Bool
at_single_stop s =
    begins (codes "'") s || begins (codes "/") s
    || (begins (codes "\n") s && not (begins (codes "\n'") s))

-- Whether the text starts with a single character other than a backslash, and its closing quote.
abbrev pub is_lone : List ℕ → Bool
is_lone s = not (begins (codes "\\") s) && begins (codes "'") (drop 1 s)

abbrev pub single_quoted_string : List ℕ → Bool × ℕ
single_quoted_string s = if is_lone s then (true, 2) else quoted (byte "'") at_single_stop s

-- Reads the body of a quoted literal, which can have a suffix if it is terminated.
abbrev pub quoted_body : (Bool → LiteralKind) → (List ℕ → Bool × ℕ) → List ℕ → Body × ℕ
quoted_body kind scan s = (record { kind = kind (scan s).0; takes_suffix = (scan s).0 }, (scan s).1)

abbrev pub str_body : List ℕ → Body × ℕ
str_body s = quoted_body Str double_quoted_string s

abbrev pub byte_str_body : List ℕ → Body × ℕ
byte_str_body s = quoted_body ByteStr double_quoted_string s

abbrev pub c_str_body : List ℕ → Body × ℕ
c_str_body s = quoted_body CStr double_quoted_string s

abbrev pub char_body : List ℕ → Body × ℕ
char_body s = quoted_body Char single_quoted_string s

abbrev pub byte_body : List ℕ → Body × ℕ
byte_body s = quoted_body Byte single_quoted_string s

-- Reads the text after the first character of a quoted literal, given the start of the literal. Returns whether the
-- literal is terminated, and the length of its body in characters. The body includes the opening quote if the quote
-- comes after a letter.
abbrev pub quoted_string : QuotedPrefix → List ℕ → Bool × ℕ
quoted_string Single s = single_quoted_string s
quoted_string BSingle s = after 1 single_quoted_string s
quoted_string Double s = double_quoted_string s
quoted_string BDouble s = after 1 double_quoted_string s
quoted_string CDouble s = after 1 double_quoted_string s

abbrev pub quoted_kind : QuotedPrefix → Bool → LiteralKind
quoted_kind Single terminated = Char terminated
quoted_kind BSingle terminated = Byte terminated
quoted_kind Double terminated = Str terminated
quoted_kind BDouble terminated = ByteStr terminated
quoted_kind CDouble terminated = CStr terminated

abbrev pub quoted_literal : QuotedPrefix → List ℕ → TokenKind × ℕ
quoted_literal prefix s = literal (quoted_body (quoted_kind prefix) (quoted_string prefix)) s
