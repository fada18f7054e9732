-- Model of guarded strings, which have hashes on both sides.
use Rattle.std.specs.{Prelude.{ℕ, suc, ◌+◌, min, Bool, if◌then◌else◌, List, drop, Option, Some, None}, Str.{chars}}
use Rattle.rustc_lexer.specs.{GuardedStr}
use Rattle.rustc_lexer.specs.model.Literal.{suffix_len}
use Rattle.rustc_lexer.specs.model.Quoted.{double_quoted_string}
use Rattle.rustc_lexer.specs.model.Raw.{hash_run, is_quote}
use Rattle.rustc_lexer.specs.model.Scan.{bytes_of, next_is}
use Rattle.rustc_lexer.specs.State.{State}

-- Returns the length of the hashes, at most n, and of the suffix after the closing quote.
abbrev pub closing_len : ℕ → List ℕ → ℕ
closing_len n s = min n (hash_run s) + suffix_len (drop (min n (hash_run s)) s)

-- Reads the text after the opening quote. Returns whether the string is terminated, and the number of characters up to
-- the end of its hashes and suffix. An unterminated string extends to the end of the text.
abbrev pub guarded_body : ℕ → List ℕ → Bool × ℕ
guarded_body n u = (
  (double_quoted_string u).0,
  (double_quoted_string u).1
      + (if (double_quoted_string u).0 then closing_len n (drop (double_quoted_string u).1 u) else 0),
)

-- Reads a string after the n hashes at the start of the text, if a quote follows them. Returns whether the string is
-- terminated, and its length in bytes, including the hashes at the start.
abbrev pub string_past : ℕ → List ℕ → Option (Bool × ℕ)
string_past n cs =
    let body : Bool × ℕ = guarded_body n (drop (suc n) cs) in
    if next_is is_quote (drop n cs) then Some (body.0, bytes_of (suc n + body.1) cs) else None

-- Returns the result for a string, and the state after it. Without a string, the n hashes become pending. The length of
-- a string includes the pending bytes, and then none are pending.
abbrev pub guarded_by : ℕ → Option (Bool × ℕ) → State → Option GuardedStr × State
guarded_by n None s =
    (None, record { pending = s.pending + n; rest = drop n s.rest; mode = s.mode })
guarded_by n (Some string) s = (
  Some record { n_hashes = n; terminated = string.0; token_len = s.pending + string.1 },
  record { pending = 0; rest = drop string.1 s.rest; mode = s.mode },
)

-- Returns the guarded string at the start of the text of a state, if there is one, and the state after it.
unfoldable pub take_guarded : State → Option GuardedStr × State
take_guarded s =
    guarded_by (hash_run (chars s.rest)) (string_past (hash_run (chars s.rest)) (chars s.rest)) s
