-- Model of runs of bytes in the ASCII part of a class.
use Rattle.std.specs.{Prelude.{ℕ, Bool, not, ◌||◌, ◌&&◌, ◌==◌, nat_lt, nat_le}, Char.{is_ascii_alphanumeric}}

-- Whether the byte is an ASCII character that can continue an identifier.
abbrev pub is_continue_byte : ℕ → Bool
is_continue_byte b = nat_lt b 128 && (is_ascii_alphanumeric b || (b == 95))

-- Whether the byte is ASCII whitespace.
abbrev pub is_space_byte : ℕ → Bool
is_space_byte b = nat_lt b 128 && ((b == 32) || (nat_le 9 b && nat_le b 13))

-- Whether a run of the class stops at this byte.
abbrev pub outside : (ℕ → Bool) → ℕ → Bool
outside p b = not (p b)

-- Whether the byte belongs to a character that is not ASCII.
abbrev pub is_wide : ℕ → Bool
is_wide b = not (nat_lt b 128)
