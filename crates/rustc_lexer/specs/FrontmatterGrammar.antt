-- The grammar of a frontmatter: its opening and its end. The Reference does not describe frontmatters. RFC 3503 defines
-- the opening, and the closing fence with the same number of dashes. The other ends are error recovery in rustc's
-- lexer. `w` and `next` are as in Language.antt; all texts here are lists of characters.
use Rattle.std.specs.Prelude.{◌≡◌, ◌≤◌, ℕ, zero, suc, not, Bool, true, false, List, [], ◌∷◌, ◌++◌, length, codes}
use Rattle.std.specs.Str.{byte}
use Rattle.rustc_lexer.specs.Classes.{is_among, is_whitespace, is_horizontal_whitespace, is_info, is_id_start, Chars}
use Rattle.rustc_lexer.specs.Classes.{begins, next_is, AreAll, NextIsNot, NextNotIn, is_inline}

-- ---- the opening

-- Returns n dashes.
abbrev pub fence : ℕ → List ℕ
fence zero = []
fence (suc n) = byte "-" ∷ fence n

-- Holds if the text is the label, which follows the opening dashes on their line: spaces and tabs, or an infostring
-- with optional spaces and tabs around it: ` cargo-1.0 `. In ` 1` the label is only the space, since no infostring
-- starts with a digit.
pub data IsLabelBefore (next : Chars) : Chars → Type 0 where
  blank : {w : Chars}
      → AreAll is_horizontal_whitespace w
      → NextIsNot is_horizontal_whitespace next
      → NextIsNot is_id_start next
      → IsLabelBefore next w
  named : (u : Chars) (c : ℕ) (v w : Chars)
      → AreAll is_horizontal_whitespace u
      → is_id_start c ≡ true
      → AreAll is_info v
      → NextIsNot is_info (w ++ next)
      → AreAll is_horizontal_whitespace w
      → NextIsNot is_horizontal_whitespace next
      → IsLabelBefore next (u ++ (c ∷ v ++ w))

-- Holds if the text is the opening of a frontmatter: optional whitespace that does not end in a newline, n ≥ 3 dashes
-- without another dash after them, and their label. `bad_label` is true if the label is not directly followed by a
-- newline.
pub data IsOpeningBefore (next : Chars) : (n : ℕ) → (bad_label : Bool) → Chars → Type 0 where
  opening : (n : ℕ) (space label : Chars)
      → AreAll is_whitespace space
      → ((u : Chars) → space ≡ u ++ codes "\n" → ⊥)
      → 3 ≤ n
      → IsLabelBefore next label
      → NextNotIn (codes "-") (label ++ next)
      → IsOpeningBefore next n (not (next_is (is_among (codes "\n")) next))
      (space ++ (fence n ++ label))

-- Holds if the text does not start with the opening of a frontmatter.
abbrev pub OpensNone : Chars → Type 0
OpensNone s =
    (n : ℕ) (bad_label : Bool) (w next : Chars) → s ≡ w ++ next → IsOpeningBefore next n bad_label w
    → ⊥

-- ---- the end

-- Holds if `IsSuch` holds of the position between u and v, and of no earlier position in `u ++ v`. A position is given
-- by the text before it and the text after it.
pub record IsFirstPositionOf (IsSuch : Chars → Chars → Type 0) (u v : Chars) : Type 0 where
  pub here : IsSuch u v
  pub first : (x y : Chars) → x ++ y ≡ u ++ v → IsSuch x y → length u ≤ length x

-- Holds if `IsSuch` holds of no position in s.
abbrev pub IsNowhere : (Chars → Chars → Type 0) → Chars → Type 0
IsNowhere IsSuch s = (x y : Chars) → x ++ y ≡ s → IsSuch x y → ⊥

-- Holds if the text after this position starts with the pattern.
abbrev pub IsAt : Chars → Chars → Chars → Type 0
IsAt pattern before after = begins pattern after ≡ true

-- Holds if the blanks before lone dashes can start at the end of this text: the text is empty, it ends in a newline, or
-- it ends with the first three dashes of a row of dashes.
pub data IsEdge : Chars → Type 0 where
  front : IsEdge []
  line : (u : Chars) → IsEdge (u ++ codes "\n")
  dashes : (u : Chars) → ((v : Chars) → u ≡ v ++ codes "-" → ⊥) → IsEdge (u ++ fence 3)

-- Holds if three dashes start at this position, with only spaces and tabs between them and such an edge. In `! ------`
-- and in `! --- ---` this is the position of the second three dashes.
pub data IsLone : Chars → Chars → Type 0 where
  lone : (edge blanks after : Chars)
      → IsEdge edge
      → AreAll is_horizontal_whitespace blanks
      → begins (fence 3) after ≡ true
      → IsLone (edge ++ blanks) after

-- Lists the texts that can end a frontmatter of n dashes, and whether the line of each belongs to the frontmatter.
-- These are n dashes at the start of a line, three dashes at the start of a line, and the start of a line of Rust.
abbrev pub endings : ℕ → List (Chars × Bool)
endings n =
    (byte "\n" ∷ fence n, true) ∷ (codes "\n---", true)
    ∷ (codes "\nuse ", false) ∷ (codes "\n//!", false) ∷ (codes "\n#![", false) ∷ []

-- Holds if w is the body of a frontmatter: the text from its opening to its end, including the closing line if there is
-- one. The list contains the endings that have not been tried yet, in order.
pub data IsBodyBefore (next : Chars) : List (Chars × Bool) → Chars → Type 0 where
  -- The body ends at the first occurrence of the first ending in the list that occurs at all, even if another ending
  -- occurs earlier: in `\n//!\nuse x`, before the `use` item.
  with_line : (pattern u line : Chars) {others : List (Chars × Bool)}
      → IsFirstPositionOf (IsAt pattern) u (byte "\n" ∷ line ++ next)
      → AreAll is_inline line
      → NextIsNot is_inline next
      → IsBodyBefore next ((pattern, true) ∷ others) (u ++ byte "\n" ∷ line)
  before_line : (pattern w : Chars) {others : List (Chars × Bool)}
      → IsFirstPositionOf (IsAt pattern) w next
      → IsBodyBefore next ((pattern, false) ∷ others) w
  other : (pattern : Chars) {takes_line : Bool} {w : Chars} {others : List (Chars × Bool)}
      → IsNowhere (IsAt pattern) (w ++ next)
      → IsBodyBefore next others w
      → IsBodyBefore next ((pattern, takes_line) ∷ others) w
  -- If no ending occurs, the body ends with the line of the first lone dashes. If there are no lone dashes, it ends
  -- with the text.
  lone_dashes : (u line : Chars)
      → IsFirstPositionOf IsLone u (line ++ next)
      → AreAll is_inline line
      → NextIsNot is_inline next
      → IsBodyBefore next [] (u ++ line)
  all : {w : Chars}
      → next ≡ []
      → IsNowhere IsLone w
      → IsBodyBefore next [] w
