-- A text in a file is never cut inside a CRLF.
use Rattle.std.proofs.Common.{◌≡◌, ℕ, zero, suc, zero-add, append-nil, ◌+◌, ◌-◌, ◌<◌, ◌≤◌, ◌==◌, ◌&&◌, Bool, true}
use Rattle.std.proofs.Common.{false, List, [], ◌∷◌, ◌++◌, append_assoc, length, length-append, map, refl, sym, ap}
use Rattle.std.proofs.Common.{◌∙◌, arith}
use Rattle.std.specs.{Str.{chars, IsUtf8}}
use Rattle.std.proofs.lemmas.{Bool.{and_parts, eqb-true, Decides.{nat_tests}}, Grind.{common_steps}}
use Rattle.std.proofs.lemmas.Str.{encodes-chars, chars-encodes, scalars-chars, encode_ascii, encodes-append}
use Rattle.std.proofs.{Math.Utf8.{encode, encodes, scalar, scalars}, lemmas.List.{map-append}}
use Rattle.rustc_literal_escaper.specs.declared.element.Element.{Element}
use Rattle.rustc_literal_escaper.specs.Grammar.{Item, is_newline, next_is}
use Rattle.rustc_literal_escaper.specs.model.Elements as reading
use Rattle.rustc_literal_escaper.specs.model.Elements.{Front, front_by, item_at, items_by, items_in}
use Rattle.rustc_literal_escaper.specs.laws.Escape.{by_either}
use Rattle.rustc_lexer_errors.specs.LineEnds.{ends_line, file_items, moved, place, unix}
use Rattle.rustc_lexer_errors.specs.model.LineEnds.{IsLeft, file_item, is_whole, last_from, left_items, offset_of}

pub unix-append : (w t : List ℕ) → is_whole w t ≡ true → unix (w ++ t) ≡ unix w ++ unix t
unix-append [] t whole = refl
unix-append (c ∷ []) t whole = grind (arith, common_steps, nat_tests)
unix-append (c ∷ d ∷ w) t whole = grind (arith, common_steps, nat_tests, unix-append (d ∷ w) t whole)

unix-one : (c : ℕ) → unix (c ∷ []) ≡ c ∷ []
unix-one c = grind (arith, common_steps)

place-one : (c i : ℕ) (t : List ℕ) → ends_line c t ≡ false → place (c ∷ t) (suc i) ≡ suc (place t i)
place-one c i t stays = rw stays refl

place-line : (c i : ℕ) (t : List ℕ) → ends_line c t ≡ true → 0 < i → place (c ∷ t) i ≡ suc (place t i)
place-line c zero t ends some = absurd (omega arith)
place-line c (suc i) t ends some = rw ends refl

line-some : (c d : ℕ) (w : List ℕ) → ends_line c (d ∷ w) ≡ true → 0 < length (unix (d ∷ w))
line-some c d w ends = grind (arith, common_steps, nat_tests)

pub place-append : (w t : List ℕ) (i : ℕ) → is_whole w t ≡ true → place (w ++ t) (length (unix w) + i) ≡
    length w + place t i
place-append [] t i whole = grind (arith, common_steps, zero-add)
place-append (c ∷ []) t i whole =
    let stays : ends_line c t ≡ false = grind (arith, common_steps) in
    let size : length (unix (c ∷ [])) + i ≡ suc i = omega (arith, ap length (unix-one c)) in
    ap (place (c ∷ t)) size ∙ (place-one c i t stays ∙ omega arith)
place-append (c ∷ d ∷ w) t i whole = by_either (ends_line c (d ∷ w))
    (λ ends.
    let some = line-some c d w ends in
    let size : length (unix (c ∷ d ∷ w)) + i ≡ length (unix (d ∷ w)) + i = rw ends refl in
    ap (place (c ∷ d ∷ (w ++ t))) size
    ∙ (place-line c (length (unix (d ∷ w)) + i) (d ∷ (w ++ t)) ends (omega (arith, some))
    ∙ omega (arith, place-append (d ∷ w) t i whole)))
    (λ stays.
    let one : length (unix (c ∷ d ∷ w)) ≡ suc (length (unix (d ∷ w))) = rw stays refl in
    let size : length (unix (c ∷ d ∷ w)) + i ≡ suc (length (unix (d ∷ w)) + i) = omega (arith, one) in
    ap (place (c ∷ d ∷ (w ++ t))) size
    ∙ (place-one c (length (unix (d ∷ w)) + i) (d ∷ (w ++ t)) stays
    ∙ omega (arith, place-append (d ∷ w) t i whole)))

-- Offsets keep their order.
pub place_less : (s : List ℕ) (i j : ℕ) → i < j → place s i < place s j
place_less s i zero less = absurd (omega arith)
place_less [] zero (suc j) less = omega arith
place_less [] (suc i) (suc j) less = less
place_less (c ∷ s) zero (suc j) less =
    by_either (ends_line c s) (λ ends. rw ends (omega arith)) (λ stays. rw stays (omega arith))
place_less (c ∷ s) (suc i) (suc j) less =
    by_either (ends_line c s) (λ ends. rw ends (omega (arith, place_less s (suc i) (suc j) less)))
    (λ stays. rw stays (omega (arith, place_less s i j (omega arith))))

last_from-append : (c : ℕ) (v w : List ℕ) → last_from c (v ++ w) ≡ last_from (last_from c v) w
last_from-append c [] w = refl
last_from-append c (d ∷ v) w = last_from-append d v w

whole-append : (v w t : List ℕ) → is_whole v (w ++ t) ≡ true → is_whole w t ≡ true → is_whole (v ++ w) t ≡ true
whole-append v [] t a b = rw (append-nil v) a
whole-append v (d ∷ w) t a b = rw (last_from-append 0 v (d ∷ w)) b

pub all_left : (text : List ℕ) → IsUtf8 text → IsLeft text text
all_left text spelt = record { read = []; whole = refl; uncut = refl; all = spelt; spelt = spelt }

pub left_left : {text middle left : List ℕ} → IsLeft text middle → IsLeft middle left → IsLeft text left
left_left {text} {middle} {left} a b = record {
  read = a.read ++ b.read;
  whole = cc (append_assoc a.read b.read (chars left));
  uncut = whole-append a.read b.read (chars left) (rw b.whole at a.uncut) b.uncut;
  all = a.all;
  spelt = b.spelt;
}

-- The text that is left after some characters were read.
pub read_left : (rest left w : List ℕ) → IsUtf8 rest → IsUtf8 left → chars rest ≡ w ++ chars left
    → ends_line (last_from 0 w) (chars left) ≡ false → IsLeft rest left
read_left rest left w all spelt whole stays =
    record { read = w; whole = whole; uncut = rw stays refl; all = all; spelt = spelt }

-- The same, if a newline was read last.
pub read_line : (rest left line w : List ℕ) → IsUtf8 rest → IsUtf8 line → chars rest ≡ w ++ chars left
    → chars left ≡ 10 ∷ chars line → IsLeft rest line
read_line rest left line w all spelt whole newline = record {
  read = w ++ 10 ∷ [];
  whole = rw (whole, newline, append_assoc w (10 ∷ []) (chars line)) refl;
  uncut = rw (last_from-append 0 w (10 ∷ [])) refl;
  all = all;
  spelt = spelt;
}

-- ---- characters and bytes

text-is : (text left w : List ℕ) → IsUtf8 text → IsUtf8 left → chars text ≡ w ++ chars left → text ≡ encodes w ++ left
text-is text left w all spelt whole =
    cc (encodes-chars text all, encodes-append w (chars left), encodes-chars left spelt)

pub left_within : {text left : List ℕ} → IsLeft text left → length left ≤ length text
left_within {text} {left} is =
    omega (arith, ap length (text-is text left is.read is.all is.spelt is.whole), length-append (encodes is.read) left)

unix-encode : (c : ℕ) → unix (encode c) ≡ encode c
unfolding encode
unix-encode c = grind (arith, common_steps, nat_tests)

last-encode : (x c : ℕ) → (last_from x (encode c) == 13) ≡ (c == 13)
unfolding encode
last-encode x c = grind (arith, common_steps, nat_tests)

next-encodes : (s : List ℕ) → next_is is_newline (encodes s) ≡ next_is is_newline s
unfolding encode
next-encodes [] = refl
next-encodes (d ∷ t) = grind (arith, common_steps, nat_tests)

last-encodes : (x y : ℕ) (w : List ℕ) → (x == 13) ≡ (y == 13) → (last_from x (encodes w) == 13) ≡ (last_from y w == 13)
last-encodes x y [] same = same
last-encodes x y (c ∷ w) same = ap (λ (d : ℕ). d == 13) (last_from-append x (encode c) (encodes w))
    ∙ last-encodes (last_from x (encode c)) c w (last-encode x c)

whole-encodes : (w s : List ℕ) → is_whole (encodes w) (encodes s) ≡ is_whole w s
whole-encodes w s = rw (last-encodes 0 0 w refl, next-encodes s) refl

pub encodes-unix : (s : List ℕ) → encodes (unix s) ≡ unix (encodes s)
encodes-unix [] = refl
encodes-unix (c ∷ s) = by_either (ends_line c s)
    (λ ends.
    let both = and_parts (c == 13) (next_is is_newline s) ends in
    rw ends (encodes-unix s
    ∙ sym (rw (ap encode (eqb-true c 13 both.0) ∙ encode_ascii 13 (omega arith), next-encodes s ∙ both.1) refl)))
    (λ stays. rw (
      stays,
      unix-append (encode c) (encodes s) (rw (last-encode 0 c, next-encodes s, stays) refl),
      unix-encode c,
    ) (ap (λ (t : List ℕ). encode c ++ t) (encodes-unix s)))

-- The offset is the length of the text that has been read.
pub offset_is : (text left : List ℕ) → IsLeft text left → length text - length left ≡ offset_of text (unix (chars left))
offset_is text left is =
    let read : List ℕ = encodes is.read in
    let whole : text ≡ read ++ left = text-is text left is.read is.all is.spelt is.whole in
    let uncut : is_whole read left ≡ true =
    cc (encodes-chars left is.spelt, whole-encodes is.read (chars left)) in
    let rest : length (encodes (unix (chars left))) ≡ length (unix left) =
    cc (encodes-unix (chars left), encodes-chars left is.spelt) in
    let all : length (unix text) ≡ length (unix read) + length (unix left) =
    cc (unix-append read left uncut, length-append (unix read) (unix left)) in
    let at : length (unix text) - length (encodes (unix (chars left))) ≡ length (unix read) + 0 = omega arith in
    let size : length text ≡ length read + length left = cc (length-append read left) in
    let to : place text (length (unix read) + 0) ≡ length read + 0 =
    cc (place-append read left 0 uncut) in
    omega (arith, ap (place text) at ∙ to)

-- ---- the items of a text in a file

scalars-unix : (s : List ℕ) → scalars s ≡ true → scalars (unix s) ≡ true
scalars-unix [] all = refl
scalars-unix (c ∷ s) all =
    by_either (ends_line c s) (λ ends. rw ends (scalars-unix s (and_right (scalar c) (scalars s) all)))
    (λ stays. rw stays (grind (arith, common_steps, scalars-unix s)))
  where
    and_right : (a b : Bool) → a && b ≡ true → b ≡ true
    and_right a b both = grind (arith, common_steps)

pub chars-unix : (text : List ℕ) → IsUtf8 text → chars (unix text) ≡ unix (chars text)
chars-unix text is =
    cc (
      encodes-chars text is,
      encodes-unix (chars text),
      chars-encodes (unix (chars text)) (scalars-unix (chars text) (scalars-chars text is)),
    )

pub utf8-unix : (text : List ℕ) → IsUtf8 text → IsUtf8 (unix text)
utf8-unix text is = (
  unix (chars text),
  (
    scalars-unix (chars text) (scalars-chars text is),
    encodes-unix (chars text)
        ∙ ap unix (encodes-chars text is),
  ),
)

found-moved : (text s : List ℕ) (found : List (Element × List ℕ))
    → map (λ (i : Item). (moved text i.0, i.1))
    (map (item_at (length (unix text)) (reading.place (length (unix text)) s)) found) ≡
    map (file_item text (offset_of text s)) found
found-moved text s [] = refl
found-moved text s (f ∷ found) =
    ap (λ (is : List Item). file_item text (offset_of text s) f ∷ is) (found-moved text s found)

moved-in : (at : ℕ → List ℕ → Front) (text : List ℕ) (count : ℕ) (s : List ℕ)
    → items_in at count (offset_of text) s ≡ map (λ (i : Item). (moved text i.0, i.1))
    (items_in at count (reading.place (length (unix text))) s)
moved-in at text zero s = refl
moved-in at text (suc count) [] = refl
moved-in at text (suc count) (c ∷ s) =
    grind (
      arith,
      common_steps,
      map-append,
      found-moved text (c ∷ s) (at c s).found,
      moved-in at text count (at c s).left,
    )

-- The items that the iterator returns are the items of the text with LF line endings, with their ranges in the file.
pub all_items : (raw : Bool) (text : List ℕ) → IsUtf8 text
    → items_by (front_by raw) (offset_of text) (unix (chars text)) ≡ file_items raw text
unfolding items_by
all_items raw text is = moved-in (front_by raw) text (length (unix (chars text))) (unix (chars text))
    ∙ ap (left_items raw text) (sym (chars-unix text is))
