-- Model of the text after a single quote, which is a character literal or a lifetime.
use Rattle.std.specs.Prelude.{ℕ, suc, ◌+◌, ◌==◌, ◌&&◌, ◌||◌, not, Bool, true, if◌then◌else◌, List, [], ◌∷◌, length}
use Rattle.std.specs.Prelude.{codes}
use Rattle.std.specs.{Char.{is_ascii_digit}, Str.{byte, encode_utf8_all}}
use Rattle.rustc_lexer.specs.{TokenKind, Char, Literal, Lifetime, RawLifetime, UnknownPrefixLifetime}
use Rattle.rustc_lexer.specs.Classes.{is_id_continue, is_word_continue, is_bad_name}
pub use Rattle.rustc_lexer.specs.Classes.{is_name_start}
use Rattle.rustc_lexer.specs.model.Ident.{begins_hash_ident}
use Rattle.rustc_lexer.specs.model.Literal.{literal}
use Rattle.rustc_lexer.specs.model.Quoted.{char_body}
use Rattle.rustc_lexer.specs.model.Scan.{after, and_then, begins, gives, run, run_as}

-- Lexes the text after a name. A quote makes the name a character literal, without a suffix.
abbrev pub past_name : ℕ → List ℕ → List ℕ → TokenKind × ℕ
past_name c name s =
    if begins (codes "'") s
    then (Literal (Char true) (2 + length (encode_utf8_all (c ∷ name))), 1)
    else gives (if begins (codes "#") s && not (is_ascii_digit c) then UnknownPrefixLifetime else
    Lifetime (is_bad_name (c ∷ name))) s

-- Lexes the text after the first character `c` of a name, if it is not a raw lifetime.
abbrev pub plain_lifetime : ℕ → List ℕ → TokenKind × ℕ
plain_lifetime c s = and_then (run_as (λ name rest. name) is_word_continue) (past_name c) s

-- Whether a raw lifetime starts with `c`: it is `r`, and a hash and the start of an identifier follow.
abbrev pub is_raw : ℕ → List ℕ → Bool
is_raw c s = c == byte "r" && begins_hash_ident s

-- Lexes the text after the first character `c` of a name.
abbrev pub lifetime : ℕ → List ℕ → TokenKind × ℕ
lifetime c s = if is_raw c s then after 2 (run RawLifetime is_id_continue) s else plain_lifetime c s

-- Whether the text after a single quote is a character literal and not a lifetime: its second character is a quote, or
-- its first character cannot start a name.
abbrev pub is_character : ℕ → List ℕ → Bool
is_character c s = begins (codes "'") s || not (is_name_start c)

-- Whether the text after a single quote is a character literal and not a lifetime. The end of the text cannot start a
-- name.
abbrev pub is_character_at : List ℕ → Bool
is_character_at [] = true
is_character_at (c ∷ s) = is_character c s

-- Lexes the text after a single quote.
abbrev pub lifetime_or_char : List ℕ → TokenKind × ℕ
lifetime_or_char [] = literal char_body []
lifetime_or_char (c ∷ s) =
    if is_character c s then literal char_body (c ∷ s) else ((lifetime c s).0, suc (lifetime c s).1)
