-- Escaping for HTML, and the text that a page displays.
use Rattle.std.specs.Prelude.{ℕ, zero, suc, ◌==◌, Bool, true, false, ◌||◌, not, if◌then◌else◌, List, [], ◌∷◌, codes}
use Rattle.std.specs.Prelude.{length, take}
use Rattle.std.specs.List.{flat_map}
use Rattle.std.specs.Str.{byte, bytes_eq}

-- Whether HTML would read the byte as markup or as the end of a line, or would drop it.
abbrev pub is_special : ℕ → Bool
is_special b =
    b == byte "&" || b == byte "<" || b == byte ">" || b == byte "\r" || b == 0

-- Returns the entity of a byte: of `&`, `<`, `>` or a carriage return, and otherwise of U+0000.
abbrev pub entity : ℕ → List ℕ
entity b =
    if b == byte "&" then codes "&amp;"
    else (if b == byte "<" then codes "&lt;"
    else (if b == byte ">" then codes "&gt;"
    else (if b == byte "\r" then codes "&#13;" else codes "&#0;")))

abbrev pub escaped_byte : ℕ → List ℕ
escaped_byte b = if is_special b then entity b else b ∷ []

-- Returns the text with entities in place of these bytes.
abbrev pub escaped : List ℕ → List ℕ
escaped text = flat_map escaped_byte text

abbrev pub begins_with : List ℕ → List ℕ → Bool
begins_with name bs = bytes_eq (take (length name) bs) name

-- Decodes the entities, if the first n bytes belong to an entity that has already been decoded.
abbrev pub unescaped_past : ℕ → List ℕ → List ℕ
unescaped_past n [] = []
unescaped_past (suc n) (b ∷ bs) = unescaped_past n bs
unescaped_past zero (b ∷ bs) =
    if not (b == byte "&") then b ∷ unescaped_past 0 bs
    else (if begins_with (codes "amp;") bs then byte "&" ∷ unescaped_past 4 bs
    else (if begins_with (codes "lt;") bs then byte "<" ∷ unescaped_past 3 bs
    else (if begins_with (codes "gt;") bs then byte ">" ∷ unescaped_past 3 bs
    else (if begins_with (codes "#13;") bs then byte "\r" ∷ unescaped_past 4 bs
    else (if begins_with (codes "#0;") bs then 0 ∷ unescaped_past 3 bs
    else b ∷ unescaped_past 0 bs)))))

-- Decodes the entities.
abbrev pub unescaped : List ℕ → List ℕ
unescaped bs = unescaped_past 0 bs

-- Returns the bytes outside of tags. `inside` holds if the first byte is inside a tag.
abbrev pub untagged_from : Bool → List ℕ → List ℕ
untagged_from inside [] = []
untagged_from true (b ∷ bs) = untagged_from (not (b == byte ">")) bs
untagged_from false (b ∷ bs) =
    if b == byte "<" then untagged_from true bs else b ∷ untagged_from false bs

-- Returns the text of a page: the bytes outside of tags. A tag is everything from `<` to `>`.
abbrev pub untagged : List ℕ → List ℕ
untagged bs = untagged_from false bs
