-- The model of skipping a run of simple characters.
use Rattle.std.specs.Prelude.{◌≡◌, ℕ, ◌-◌, ◌==◌, ◌&&◌, nat_lt, not, Bool, true, false, if◌then◌else◌, List, [], ◌∷◌}
use Rattle.std.specs.Prelude.{◌++◌, length}
use Rattle.std.specs.List.{list_all}
use Rattle.rustc_literal_escaper.specs.declared.element.Element.TheVariants.{Plain}
use Rattle.rustc_literal_escaper.specs.Grammar.{Item}
use Rattle.rustc_literal_escaper.specs.Items.{is_plain}

-- Whether the character is simple: plain, ASCII, and not U+0000. Such a character is valid in every kind of string.
abbrev pub is_simple : Bool → ℕ → Bool
is_simple raw c = nat_lt c 128 && (not (c == 0) && is_plain raw c)

-- Whether the character is ASCII and not U+0000. Unescaped, it has a value in every kind of string.
abbrev pub is_ascii_value : ℕ → Bool
is_ascii_value c = nat_lt c 128 && not (c == 0)

-- Returns 2 if the character is simple, 1 if it is simple only in raw strings, and 0 otherwise.
abbrev pub simple_level : ℕ → ℕ
simple_level c = if is_simple false c then 2 else if is_simple true c then 1 else 0

-- Returns the items of plain ASCII characters, one byte each. The last one ends at the offset `end`.
abbrev pub plain_items : ℕ → List ℕ → List Item
plain_items end [] = []
plain_items end (b ∷ bs) =
    (record { start = end - length (b ∷ bs); end = end - length bs }, Plain b) ∷ plain_items end bs

abbrev pub is_stop : Bool → ℕ → Bool
is_stop raw c = not (is_simple raw c)

-- Holds if s consists of characters of the class, followed by `left`.
pub record Passes (class : ℕ → Bool) (s left : List ℕ) : Type 0 where
  pub passed : List ℕ
  pub all : list_all class passed ≡ true
  pub whole : s ≡ passed ++ left
