-- Model of the token at the start of a text in an edition.
use Rattle.std.specs.{Prelude.{ℕ, nat_le, if◌then◌else◌, Bool, false, List, [], ◌∷◌, take}, Str.{chars}}
use Rattle.rustc_lexer.specs.{Edition, Token, TokenKind, Ident, UnknownPrefix, UnknownPrefixLifetime, RawLifetime}
use Rattle.rustc_lexer.specs.{Lifetime, GuardedStrPrefix, Pound}
use Rattle.rustc_lexer.specs.LanguageText.{year}
use Rattle.rustc_lexer.specs.Classes.{is_word_continue, is_bad_name}
use Rattle.rustc_lexer.specs.model.Lexeme.{first_token}
use Rattle.rustc_lexer.specs.model.Scan.{run_len}

abbrev pub token : TokenKind → ℕ → Token
token kind len = record { kind = kind; len = len }

-- Whether the name after a quote is invalid as the name of a lifetime. The text starts with the quote.
abbrev pub has_bad_name : List ℕ → Bool
has_bad_name [] = false
has_bad_name (quote ∷ []) = false
has_bad_name (quote ∷ c ∷ s) = is_bad_name (c ∷ (take (run_len is_word_continue s) s))

-- Returns the token that an edition before 2024 has instead of this token. It reserves no guarded strings: a hash is a
-- symbol, whatever follows it.
abbrev pub before_2024 : TokenKind → ℕ → Token
before_2024 GuardedStrPrefix len = token Pound 1
before_2024 kind len = token kind len

-- Returns the token that an edition before 2021 has instead of this token of the characters `cs`. It does not reserve
-- prefixes either: no lifetime is raw, and a prefix of newer editions is an identifier or a lifetime.
abbrev pub before_2021 : List ℕ → TokenKind → ℕ → Token
before_2021 cs RawLifetime len = token (Lifetime false) 2
before_2021 cs UnknownPrefix len = token Ident len
before_2021 cs UnknownPrefixLifetime len = token (Lifetime (has_bad_name cs)) len
before_2021 cs kind len = before_2024 kind len

-- Returns the token that the edition of a year has instead of the first token of these characters.
abbrev pub changed_in : ℕ → List ℕ → Token → Token
changed_in year cs t =
    if nat_le 2024 year then t
    else (if nat_le 2021 year then before_2024 t.kind t.len
    else before_2021 cs t.kind t.len)

abbrev pub changed : Edition → List ℕ → Token → Token
changed edition cs t = changed_in (year edition) cs t

-- Returns the first token of a text in an edition.
abbrev pub first_token_in : Edition → List ℕ → Token
first_token_in edition text = changed edition (chars text) (first_token text)
