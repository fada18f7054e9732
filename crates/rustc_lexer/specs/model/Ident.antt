-- Model of identifiers and prefixes.
use Rattle.std.specs.{Prelude.{ℕ, ◌&&◌, Bool, if◌then◌else◌, List, drop, codes}, List.{list_all}}
use Rattle.rustc_lexer.specs.{TokenKind, Ident, InvalidIdent, UnknownPrefix}
use Rattle.rustc_lexer.specs.Classes.{ends_prefix, is_id_start, is_id_continue, is_word_continue}
use Rattle.rustc_lexer.specs.model.Scan.{after, begins, next_is, run, run_as}

-- Returns the kind of a word, given its characters after the first, and the text after the word. An emoji that cannot
-- continue an identifier makes the word invalid.
abbrev pub ident_kind : List ℕ → List ℕ → TokenKind
ident_kind word rest =
    if list_all is_id_continue word then (if next_is ends_prefix rest then UnknownPrefix else Ident)
    else InvalidIdent

-- Lexes the text after the first character of an identifier.
abbrev pub ident_or_unknown_prefix : List ℕ → TokenKind × ℕ
ident_or_unknown_prefix s = run_as ident_kind is_word_continue s

-- Lexes the text after an emoji that cannot start an identifier.
abbrev pub invalid_ident : List ℕ → TokenKind × ℕ
invalid_ident s = run InvalidIdent is_word_continue s

-- Whether the text starts with a hash and the start of an identifier.
abbrev pub begins_hash_ident : List ℕ → Bool
begins_hash_ident s = begins (codes "#") s && next_is is_id_start (drop 1 s)

-- Lexes the text after an `r` or a `k`: as `kind` if a hash and an identifier follow, otherwise with `other`.
abbrev pub hash_ident_or : TokenKind → (List ℕ → TokenKind × ℕ) → List ℕ → TokenKind × ℕ
hash_ident_or kind other s =
    if begins_hash_ident s then after 2 (run kind is_id_continue) s else other s
