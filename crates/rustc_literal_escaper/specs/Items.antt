-- The guarantees for the items of a text, and the contract of an iterator over them.
use Rattle.std.specs.Prelude.{◌≡◌, ℕ, ◌<◌, ◌+◌, ◌==◌, ◌&&◌, not, Bool, true, false, List, [], ◌∷◌, ◌++◌, length, map}
use Rattle.std.specs.Prelude.{filter, All, IsCharBoundary, Option, Some, None}
use Rattle.std.specs.List.{list_all}
use Rattle.std.specs.Str.{byte, chars}
use Rattle.std.specs.declared.ops.Range.{Range}
use Rattle.rustc_literal_escaper.specs.declared.element.Element.{Element}
use Rattle.rustc_literal_escaper.specs.declared.element.Element.TheVariants.{Plain, Diagnostic}
use Rattle.rustc_literal_escaper.specs.Answers.{items_of}
use Rattle.rustc_literal_escaper.specs.Grammar.{Item, is_passed_over}
use Rattle.rustc_literal_escaper.specs.Meaning.{is_fatal}

-- Holds if `next`, called when the iterator has this list of items left, returns the first item and leaves the rest, or
-- returns `None` if there is no item.
abbrev pub TakesFirst : {A : Type 0} → List A → Option A → List A → Type 0
TakesFirst s None t = (s ≡ []) × (t ≡ [])
TakesFirst s (Some item) t = s ≡ item ∷ t

-- ---- plain text

-- Whether the character is plain: in a raw string, any character except a carriage return; otherwise, any character
-- except a backslash, a double quote and a carriage return.
abbrev pub is_plain : Bool → ℕ → Bool
is_plain false c = not (c == byte "\\") && (not (c == byte "\"") && not (c == 13))
is_plain true c = not (c == 13)

abbrev pub elements_in : List Item → List Element
elements_in items = map (λ item. item.1) items

-- Holds if the elements of the text are its characters, provided that all of them are plain.
abbrev pub StandsForItself : Bool → List ℕ → Type 0
StandsForItself raw text =
    list_all (is_plain raw) (chars text) ≡ true
    → elements_in (items_of raw text) ≡ map Plain (chars text)

-- ---- ranges

-- Holds if the range of an item is not empty, and both ends are char boundaries.
pub record IsPlaced (text : List ℕ) (item : Item) : Type 0 where
  pub not_empty : item.0.start < item.0.end
  pub start : IsCharBoundary text item.0.start
  pub end : IsCharBoundary text item.0.end

abbrev pub ArePlaced : List ℕ → List Item → Type 0
ArePlaced text items = All (IsPlaced text) items

-- ---- a text is rebuilt from the ranges of its items

-- Returns skipped line endings: for each list of whitespace, a backslash, a newline, and that whitespace.
abbrev pub line_ends : List (List ℕ) → List ℕ
line_ends [] = []
line_ends (space ∷ spaces) = byte "\\" ∷ 10 ∷ (space ++ line_ends spaces)

-- Holds if the bytes are any number of skipped line endings, possibly none. A raw string has none.
abbrev pub AreLineEnds : Bool → List ℕ → Type 0
AreLineEnds true bytes = bytes ≡ []
AreLineEnds false bytes =
    (spaces : List (List ℕ)) × (list_all (list_all is_passed_over) spaces ≡ true)
    × (bytes ≡ line_ends spaces)

-- Holds if the rest of a text, from the offset `from` on, consists of skipped line endings, the bytes of this range,
-- and `rest`.
pub record IsNext (raw : Bool) (from : ℕ) (left : List ℕ) (place : Range ℕ) (rest : List ℕ) : Type 0
  where
    pub skipped : List ℕ
    pub covered : List ℕ
    pub line_ends : AreLineEnds raw skipped
    pub start : place.start ≡ from + length skipped
    pub end : place.end ≡ place.start + length covered
    pub whole : left ≡ skipped ++ (covered ++ rest)

-- Holds if the rest of a text consists of the bytes of these ranges, in order, with only skipped line endings around
-- them.
abbrev pub IsMadeOf : Bool → ℕ → List ℕ → List (Range ℕ) → Type 0
IsMadeOf raw from left [] = AreLineEnds raw left
IsMadeOf raw from left (place ∷ places) =
    (rest : List ℕ) × IsNext raw from left place rest × IsMadeOf raw place.end rest places

-- Whether the element is a warning. A warning reports a skipped line ending, and is not part of the value.
abbrev pub is_warning : Element → Bool
is_warning (Diagnostic error) = not (is_fatal error)
is_warning element = false

abbrev pub is_unit : Item → Bool
is_unit item = not (is_warning item.1)

abbrev pub places_of : List Item → List (Range ℕ)
places_of items = map (λ item. item.0) (filter is_unit items)

-- Holds if the text consists of the ranges of its items that are not warnings, and of skipped line endings.
abbrev pub IsRebuilt : Bool → List ℕ → Type 0
IsRebuilt raw text = IsMadeOf raw 0 text (places_of (items_of raw text))
