-- Model of frontmatter, which can come before the first token, between two fences of dashes.
use Rattle.std.specs.Prelude.{ℕ, zero, suc, ◌+◌, ◌==◌, ◌&&◌, ◌||◌, not, Bool, true, false, if◌then◌else◌, List, [], ◌∷◌}
use Rattle.std.specs.Prelude.{length, take, drop, Option, Some, None}
use Rattle.std.specs.Str.{byte, chars}
use Rattle.rustc_lexer.specs.{Token, Frontmatter}
use Rattle.rustc_lexer.specs.Classes.{is_whitespace, is_horizontal_whitespace, is_info, is_id_start, is_inline, Chars}
use Rattle.rustc_lexer.specs.FrontmatterGrammar.{fence, endings}
use Rattle.rustc_lexer.specs.model.Least.{one_more}
use Rattle.rustc_lexer.specs.model.Raw.{least_offset}
use Rattle.rustc_lexer.specs.model.Scan.{begins, bytes_of, next_is, past, run_len}

abbrev pub newline : ℕ
newline = 10

abbrev pub is_newline : ℕ → Bool
is_newline c = c == newline

abbrev pub is_dash : ℕ → Bool
is_dash c = c == byte "-"

-- ---- the opening, in characters

-- Returns the length of two prefixes, one after the other.
abbrev pub then_len : (List ℕ → ℕ) → (List ℕ → ℕ) → List ℕ → ℕ
then_len first next s = first s + next (drop (first s) s)

-- Returns the length of the whitespace at the start.
abbrev pub spaces_len : List ℕ → ℕ
spaces_len s = run_len is_whitespace s

-- Returns the number of dashes of the opening fence.
abbrev pub fence_len : List ℕ → ℕ
fence_len s = run_len is_dash (drop (spaces_len s) s)

abbrev pub blanks_len : List ℕ → ℕ
blanks_len s = run_len is_horizontal_whitespace s

-- Returns the length of the infostring, or 0 if there is none. An infostring starts like an identifier.
abbrev pub infostring_len : List ℕ → ℕ
infostring_len s = if next_is is_id_start s then 1 + run_len is_info (drop 1 s) else 0

-- Returns the length of the label, which follows the dashes on their line.
abbrev pub label_len : List ℕ → ℕ
label_len s = then_len (then_len blanks_len infostring_len) blanks_len s

-- Returns the length of the opening: whitespace, dashes and the label.
abbrev pub opening_len : List ℕ → ℕ
opening_len s = then_len (then_len spaces_len (run_len is_dash)) label_len s

-- Whether the last character is a newline.
abbrev pub ends_line : List ℕ → Bool
ends_line [] = false
ends_line (c ∷ []) = is_newline c
ends_line (c ∷ d ∷ s) = ends_line (d ∷ s)

-- Whether three dashes follow the whitespace at the start, and this whitespace does not end in a newline.
abbrev pub opens : List ℕ → Bool
opens s = begins (fence 3) (drop (spaces_len s) s) && not (ends_line (take (spaces_len s) s))

-- ---- the end, in bytes or in characters, since the patterns are ASCII; `s` is the text after the opening

-- Returns the offset of the first occurrence of the pattern.
abbrev pub first : List ℕ → List ℕ → Option ℕ
first pattern s = least_offset (begins pattern) s

-- Returns the offset of the first newline at or after this offset, or the end of the text.
abbrev pub line_end : ℕ → List ℕ → ℕ
line_end offset s = offset + run_len is_inline (drop offset s)

-- Whether the current line is blank up to the end of this character, given whether it is blank before the character.
abbrev pub blank_past : Bool → ℕ → Bool
blank_past blank c = is_newline c || (is_horizontal_whitespace c && blank)

-- Whether the current line is blank up to the end of these characters, given whether it is blank before them.
abbrev pub blank_over : Bool → List ℕ → Bool
blank_over blank [] = blank
blank_over blank (c ∷ s) = blank_over (blank_past blank c) s

-- Returns the offset of the first three dashes with only blanks before them, on their line or after the previous three
-- dashes. `skip` of these previous dashes are still to be skipped.
abbrev pub first_lone : Bool → ℕ → List ℕ → Option ℕ
first_lone blank skip [] = None
first_lone blank (suc skip) (c ∷ s) = one_more (first_lone blank skip s)
first_lone blank zero (c ∷ s) =
    if begins (fence 3) (c ∷ s) then (if blank then Some 0 else one_more (first_lone true 2 s))
    else one_more (first_lone (blank_past blank c) 0 s)

abbrev pub if_found : Option ℕ → (ℕ → ℕ) → ℕ → ℕ
if_found None end otherwise = otherwise
if_found (Some offset) end otherwise = end offset

-- Returns the end at the first of these endings that occurs. If none occurs, this is the end of the line of lone
-- dashes, and if there are no lone dashes, the end of the text.
abbrev pub end_by : List (Chars × Bool) → List ℕ → ℕ
end_by [] s = if_found (first_lone true 0 s) (λ offset. line_end offset s) (length s)
end_by ((pattern, takes_line) ∷ others) s =
    if_found (first pattern s) (λ offset. if takes_line then line_end (offset + 1) s else offset)
    (end_by others s)

unfoldable pub closing_end : ℕ → List ℕ → ℕ
closing_end n s = end_by (endings n) s

-- ---- the token

-- Returns the text after the opening.
unfoldable pub past_opening : List ℕ → List ℕ
past_opening text = past (opening_len (chars text)) text

-- Returns the frontmatter of a text that starts with the opening of a frontmatter.
unfoldable pub frontmatter : List ℕ → Token
frontmatter text = record {
  kind =
      Frontmatter (next_is is_whitespace (chars text))
      (not (next_is is_newline (chars (past_opening text))));
  len =
      bytes_of (opening_len (chars text)) (chars text)
      + closing_end (fence_len (chars text)) (past_opening text);
}
