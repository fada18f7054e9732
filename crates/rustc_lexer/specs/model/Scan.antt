-- Model of scanners. A scanner reads a prefix of a list of characters, and returns its result and the number of
-- characters that it read.
use Rattle.std.specs.Prelude.{ℕ, suc, ◌+◌, Bool, true, false, if◌then◌else◌, List, [], ◌∷◌, length, take, drop, Option}
use Rattle.std.specs.Prelude.{Some, None}
use Rattle.std.specs.Str.{chars, encode_utf8_all}
use Rattle.rustc_lexer.specs.{Token, TokenKind}
pub use Rattle.rustc_lexer.specs.Classes.{begins, next_is}

-- Continues after a scanner that returned `a`, with the next scanner on the text that is left.
abbrev pub then_by : {A B : Type 0} → (A × ℕ) → List ℕ → (A → List ℕ → B × ℕ) → B × ℕ
then_by a s next = ((next a.0 (drop a.1 s)).0, a.1 + (next a.0 (drop a.1 s)).1)

-- Runs a scanner, and then the next scanner on the text that is left.
abbrev pub and_then : {A B : Type 0} → (List ℕ → A × ℕ) → (A → List ℕ → B × ℕ) → List ℕ → B × ℕ
and_then scan next s = then_by (scan s) s next

-- Returns `a` without reading a character.
abbrev pub gives : {A : Type 0} → A → List ℕ → A × ℕ
gives a s = (a, 0)

-- Runs a scanner and converts its result.
abbrev pub read_as : {A B : Type 0} → (A → B) → (List ℕ → A × ℕ) → List ℕ → B × ℕ
read_as f scan s = (f (scan s).0, (scan s).1)

-- Runs a scanner after the first n characters.
abbrev pub after : {A : Type 0} → ℕ → (List ℕ → A × ℕ) → List ℕ → A × ℕ
after n scan s = ((scan (drop n s)).0, n + (scan (drop n s)).1)

-- Returns the length of the longest prefix whose characters are in the class.
abbrev pub run_len : (ℕ → Bool) → List ℕ → ℕ
run_len p [] = 0
run_len p (c ∷ cs) = if p c then suc (run_len p cs) else 0

-- Reads the longest prefix whose characters are in the class, and returns `a`.
abbrev pub run : {A : Type 0} → A → (ℕ → Bool) → List ℕ → A × ℕ
run a p s = (a, run_len p s)

-- Reads the same prefix, and returns a result that depends on the prefix and on the text after it.
abbrev pub run_as : {A : Type 0} → (List ℕ → List ℕ → A) → (ℕ → Bool) → List ℕ → A × ℕ
run_as f p s = (f (take (run_len p s) s) (drop (run_len p s) s), run_len p s)

-- Returns true and the length up to the end that was found, or false and the length of the whole text.
abbrev pub or_all_at : Option ℕ → List ℕ → Bool × ℕ
or_all_at None s = (false, length s)
or_all_at (Some n) s = (true, n)

abbrev pub or_all : (List ℕ → Option ℕ) → List ℕ → Bool × ℕ
or_all end s = or_all_at (end s) s

-- Returns the length of the first n characters in bytes.
abbrev pub bytes_of : ℕ → List ℕ → ℕ
bytes_of n cs = length (encode_utf8_all (take n cs))

-- Returns the text after its first n characters.
unfoldable pub past : ℕ → List ℕ → List ℕ
past n text = encode_utf8_all (drop n (chars text))

-- Runs a scanner on a text. Returns its result, and the text that is left.
abbrev pub scanned : {A : Type 0} → (List ℕ → A × ℕ) → List ℕ → A × List ℕ
scanned scan text = ((scan (chars text)).0, past (scan (chars text)).1 text)

-- Returns the first token of a text, with a scanner of its kind.
abbrev pub token_by : (List ℕ → TokenKind × ℕ) → List ℕ → Token
token_by scan text =
    record { kind = (scan (chars text)).0; len = bytes_of (scan (chars text)).1 (chars text) }
