-- Model of literals: a body, and a suffix if the body can have one.
use Rattle.std.specs.Prelude.{ℕ, ◌+◌, Bool, if◌then◌else◌, List, drop}
use Rattle.rustc_lexer.specs.{LiteralKind, TokenKind, Literal}
use Rattle.rustc_lexer.specs.Classes.{is_id_start, is_id_continue}
use Rattle.rustc_lexer.specs.model.Scan.{next_is, run_len, bytes_of}

-- Returns the length of the suffix, which is an identifier, or 0 if no identifier starts here.
abbrev pub suffix_len : List ℕ → ℕ
suffix_len s = if next_is is_id_start s then 1 + run_len is_id_continue (drop 1 s) else 0

-- The body of a literal has a kind, and a flag that is true if the literal can have a suffix.
pub record Body : Type 0 where
  pub kind : LiteralKind
  pub takes_suffix : Bool

-- Returns the length of the suffix, or 0 if the literal cannot have a suffix.
abbrev pub suffixed : Bool → List ℕ → ℕ
suffixed takes s = if takes then suffix_len s else 0

-- Returns the kind of a literal whose body comes after p characters of one byte each, and the length of body and suffix
-- in characters. The suffix starts where the body ends.
abbrev pub literal_past : ℕ → Body × ℕ → List ℕ → TokenKind × ℕ
literal_past p body s = (
  Literal body.0.kind (p + bytes_of body.1 s),
  body.1
      + suffixed body.0.takes_suffix (drop body.1 s),
)

-- Lexes the text after the first character of a literal.
abbrev pub literal : (List ℕ → Body × ℕ) → List ℕ → TokenKind × ℕ
literal body s = literal_past 1 (body s) s
