-- The output for a terminal: control characters, which a terminal would obey, are replaced by symbols.
use Rattle.std.specs.Prelude.{ℕ, ◌+◌, ◌==◌, nat_lt, Bool, true, false, ◌&&◌, ◌||◌, not, if◌then◌else◌, List, [], ◌∷◌}
use Rattle.std.specs.Char.{is_control}
use Rattle.std.specs.Str.{byte}

abbrev pub starts_with_newline : List ℕ → Bool
starts_with_newline [] = false
starts_with_newline (c ∷ cs) = c == byte "\n"

-- Whether the character is a tab, a newline, or the carriage return of a CRLF, if `rest` follows it.
abbrev pub is_layout : ℕ → List ℕ → Bool
is_layout c rest =
    c == byte "\t" || c == byte "\n" || (c == byte "\r" && starts_with_newline rest)

-- Whether the character is a control character other than a tab and a newline. It is replaced by a symbol, unless it is
-- the carriage return of a CRLF.
abbrev pub is_replaceable : ℕ → Bool
is_replaceable c = is_control c && not (c == byte "\t" || c == byte "\n")

-- Whether such a character can start with this byte in UTF-8.
abbrev pub may_begin_replaceable : ℕ → Bool
may_begin_replaceable b = nat_lt b 128 && is_replaceable b || b == 0xC2

-- Returns the symbol of a control character: `␀` to `␟` for U+0000 to U+001F, `␡` for U+007F, and `�` for any other.
abbrev pub symbol : ℕ → ℕ
symbol c = if nat_lt c 32 then 0x2400 + c else (if c == 127 then 0x2421 else 0xFFFD)

-- Returns a character of a part as it is displayed, if `rest` follows it in the part.
abbrev pub seen_char : ℕ → List ℕ → ℕ
seen_char c rest = if is_control c && not (is_layout c rest) then symbol c else c

-- Returns the characters of a part as they are displayed.
abbrev pub seen : List ℕ → List ℕ
seen [] = []
seen (c ∷ cs) = seen_char c cs ∷ seen cs

-- Whether a terminal obeys none of these characters: they contain no control character other than tabs, newlines and
-- the carriage returns of CRLFs.
abbrev pub is_quiet : List ℕ → Bool
is_quiet [] = true
is_quiet (c ∷ cs) = (not (is_control c) || is_layout c cs) && is_quiet cs
