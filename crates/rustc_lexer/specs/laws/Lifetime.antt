-- How far a character or a lifetime looks ahead.
use Rattle.std.proofs.Common.{ℕ, ◌+◌, ◌&&◌, not, true, if◌then◌else◌, List, ◌∷◌, length, codes}
use Rattle.std.specs.{Char.{is_ascii_digit}, Str.{encode_utf8_all}}
use Rattle.rustc_lexer.specs.{TokenKind, Char, Literal, Lifetime, RawLifetime, UnknownPrefixLifetime}
use Rattle.rustc_lexer.specs.Classes.{is_id_continue, is_word_continue, is_bad_name}
use Rattle.rustc_lexer.specs.model.Scan.{after, begins, gives, run, run_as}

-- Returns the kind of a name without a quote after it, and how much is read after the name.
abbrev pub unquoted_name : ℕ → List ℕ → List ℕ → TokenKind × ℕ
unquoted_name c name s =
    gives (if begins (codes "#") s && not (is_ascii_digit c) then UnknownPrefixLifetime else Lifetime
    (is_bad_name (c ∷ name))) s

-- Returns the kind of a name with a quote after it, and how much is read after the name.
abbrev pub quoted_name : ℕ → List ℕ → List ℕ → TokenKind × ℕ
quoted_name c name s = (Literal (Char true) (2 + length (encode_utf8_all (c ∷ name))), 1)

abbrev pub name_of : List ℕ → List ℕ × ℕ
name_of s = run_as (λ name rest. name) is_word_continue s

-- Returns a raw lifetime.
abbrev pub raw : List ℕ → TokenKind × ℕ
raw s = after 2 (run RawLifetime is_id_continue) s
