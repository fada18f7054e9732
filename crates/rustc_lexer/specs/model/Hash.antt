-- Model of a hash, which is a symbol or the start of the prefix of a guarded string.
use Rattle.std.specs.Prelude.{ℕ, Bool, if◌then◌else◌, List, codes}
use Rattle.rustc_lexer.specs.{TokenKind, GuardedStrPrefix, Pound}
use Rattle.rustc_lexer.specs.Classes.{is_among}
use Rattle.rustc_lexer.specs.model.Scan.{after, gives, next_is}

-- Whether the character after the first hash opens a guarded string: a quote or a hash.
abbrev pub opens_guarded : ℕ → Bool
opens_guarded c = is_among (codes "\"#") c

-- Lexes the text after a hash.
abbrev pub hash : List ℕ → TokenKind × ℕ
hash s = if next_is opens_guarded s then after 1 (gives GuardedStrPrefix) s else gives Pound s
