-- Model of raw strings, and of the raw string check.
use Rattle.std.specs.Prelude.{ℕ, zero, suc, ◌+◌, ◌==◌, nat_le, max, Bool, true, false, ◌&&◌, not, if◌then◌else◌, List}
use Rattle.std.specs.Prelude.{[], ◌∷◌, length, drop, Option, Some, None, Result, Ok, Err}
use Rattle.std.specs.Str.{byte, chars}
use Rattle.rustc_lexer.specs.declared.lexemes.raw.RawPrefix.{RawPrefix}
use Rattle.rustc_lexer.specs.declared.lexemes.raw.RawPrefix.TheVariants.{R, Br, Cr}
use Rattle.rustc_lexer.specs.{LiteralKind, RawStrError, TokenKind, RawStr, RawByteStr, RawCStr, InvalidStarter}
use Rattle.rustc_lexer.specs.{NoTerminator, TooManyDelimiters}
use Rattle.rustc_lexer.specs.model.Least.{least}
use Rattle.rustc_lexer.specs.model.Literal.{Body, literal_past}
use Rattle.rustc_lexer.specs.model.Scan.{after, bytes_of, gives, next_is, run_len}
pub use Rattle.rustc_lexer.specs.LanguageCalls.{StartsRaw}

-- Returns the minimum offset such that the text from there on passes the test.
abbrev pub least_offset : (List ℕ → Bool) → List ℕ → Option ℕ
least_offset test s = least (λ offset. test (drop offset s)) (length s)

-- Returns the maximum of f for the numbers less than `count`, or 0 if there are none.
abbrev pub greatest : (ℕ → ℕ) → ℕ → ℕ
greatest f zero = 0
greatest f (suc count) = max (f 0) (greatest (λ i. f (suc i)) count)

abbrev pub is_r : ℕ → Bool
is_r c = c == byte "r"

abbrev pub is_hash : ℕ → Bool
is_hash c = c == byte "#"

abbrev pub is_quote : ℕ → Bool
is_quote c = c == byte "\""

abbrev pub is_no_quote : ℕ → Bool
is_no_quote c = not (is_quote c)

-- Returns the number of hashes at the start of the text.
abbrev pub hash_run : List ℕ → ℕ
hash_run s = run_len is_hash s

-- Whether the text starts with a quote and at least n hashes directly after it.
abbrev pub closes : ℕ → List ℕ → Bool
closes n s = next_is is_quote s && nat_le n (hash_run (drop 1 s))

-- Returns the offset of the first quote with at least n hashes after it.
abbrev pub close : ℕ → List ℕ → Option ℕ
close n u = least_offset (closes n) u

-- Returns the number of hashes directly after the quote at the start of the text, or 0 if the text does not start with
-- a quote.
abbrev pub quote_hashes : List ℕ → ℕ
quote_hashes s = if next_is is_quote s then hash_run (drop 1 s) else 0

-- Returns the maximum number of hashes directly after a quote.
abbrev pub most_hashes : List ℕ → ℕ
most_hashes u = greatest (λ offset. quote_hashes (drop offset u)) (length u)

-- Returns the offset of the first quote with exactly m hashes after it, where m is not 0.
abbrev pub quote_with : ℕ → List ℕ → Option ℕ
quote_with m u = least_offset (λ s. quote_hashes s == m) u

abbrev pub quote_if : ℕ → List ℕ → Option ℕ
quote_if m u = if m == 0 then None else quote_with m u

-- Returns the offset of the first quote with the maximum number of hashes, or None if no quote has hashes after it.
abbrev pub best_quote : List ℕ → Option ℕ
best_quote u = quote_if (most_hashes u) u

-- Returns the offset in bytes where the quote at this offset ends, if `before` bytes come before u.
abbrev pub quote_end : ℕ → List ℕ → Option ℕ → Option ℕ
quote_end before u None = None
quote_end before u (Some offset) = Some (before + bytes_of (suc offset) u)

-- Returns the number of hashes of a terminated string, or an error if it is more than 255.
abbrev pub hash_count : ℕ → Result ℕ RawStrError
hash_count n = if nat_le n 255 then Ok n else Err (TooManyDelimiters n)

-- Returns the number of hashes or the error, and the length, of a string with its closing quote at this offset. The
-- string ends after the n hashes that follow the quote. An unterminated string extends to the end of the text.
abbrev pub raw_closed : ℕ → ℕ → List ℕ → Option ℕ → Result ℕ RawStrError × ℕ
raw_closed n before u (Some offset) = (hash_count n, suc offset + n)
raw_closed n before u None =
    (Err (NoTerminator n (most_hashes u) (quote_end before u (best_quote u))), length u)

-- Reads the text after n hashes and a quote. The offset in an error includes `before` bytes in front of the text.
abbrev pub raw_text : ℕ → ℕ → List ℕ → Result ℕ RawStrError × ℕ
raw_text n before u = raw_closed n before u (close n u)

-- Reads the text after the character that should be a quote.
abbrev pub past_starter : ℕ → ℕ → ℕ → List ℕ → Result ℕ RawStrError × ℕ
past_starter prefix n c u =
    if is_quote c then raw_text n (prefix + suc n) u else gives (Err (InvalidStarter c)) u

-- Reads the text after n hashes. The end of the text counts as U+0000.
abbrev pub raw_starter : ℕ → ℕ → List ℕ → Result ℕ RawStrError × ℕ
raw_starter prefix n [] = (Err (InvalidStarter 0), 0)
raw_starter prefix n (c ∷ u) = ((past_starter prefix n c u).0, suc (past_starter prefix n c u).1)

-- Reads the text after the `r`. Returns the number of hashes on each side, or the error. The offset in an error
-- includes `prefix` bytes in front of the text.
abbrev pub raw_read : ℕ → List ℕ → Result ℕ RawStrError × ℕ
raw_read prefix s = after (hash_run s) (raw_starter prefix (hash_run s)) s

-- Returns the number of hashes, or None for an error.
abbrev pub accepted : Result ℕ RawStrError → Option ℕ
accepted (Ok n) = Some n
accepted (Err e) = None

abbrev pub is_accepted : Result ℕ RawStrError → Bool
is_accepted (Ok n) = true
is_accepted (Err e) = false

-- Returns the body of a raw string, which can have a suffix if there is no error.
abbrev pub raw_body_by : (Option ℕ → LiteralKind) → Result ℕ RawStrError × ℕ → Body × ℕ
raw_body_by kind read =
    (record { kind = kind (accepted read.0); takes_suffix = is_accepted read.0 }, read.1)

abbrev pub raw_body : (Option ℕ → LiteralKind) → List ℕ → Body × ℕ
raw_body kind s = raw_body_by kind (raw_read 0 s)

abbrev pub prefix_kind : RawPrefix → Option ℕ → LiteralKind
prefix_kind R = RawStr
prefix_kind Br = RawByteStr
prefix_kind Cr = RawCStr

abbrev pub prefix_len : RawPrefix → ℕ
prefix_len R = 1
prefix_len Br = 2
prefix_len Cr = 2

-- Lexes the text after the prefix.
abbrev pub raw_literal : RawPrefix → List ℕ → TokenKind × ℕ
raw_literal prefix s = literal_past (prefix_len prefix) (raw_body (prefix_kind prefix) s) s

abbrev pub checked : Result ℕ RawStrError → Result Unit RawStrError
checked (Ok n) = Ok tt
checked (Err e) = Err e

-- Checks a text whose prefix is p characters long.
unfoldable pub check_raw : List ℕ → ℕ → Result Unit RawStrError
check_raw text p = checked (raw_read p (drop p (chars text))).0
