-- The ranges of items: their ends are char boundaries, and together they rebuild the text.
use Rattle.std.proofs.Common.{◌≡◌, ℕ, ◌+◌, ◌<◌, Bool, true, false, if◌then◌else◌, List, [], ◌∷◌, ◌++◌, length-append}
use Rattle.std.proofs.Common.{append_assoc, refl, sym, ap, subst, ◌∙◌, arith, length, filter}
use Rattle.std.specs.{Prelude.{IsCharBoundary}, Char.{is_whitespace, is_ascii}, List.{list_any, list_all}}
use Rattle.std.specs.Str.{all_scalars, chars, encode_utf8_all, IsUtf8}
use Rattle.std.proofs.lemmas.{Bool.{and_parts}, List.Elements.{All-append, All-cons, All-nil, filter-append}}
use Rattle.std.proofs.lemmas.Str.{encodes-append, encodes-chars, scalars-chars, length-le-encodes}
use Rattle.std.proofs.lemmas.Str.{IsCharBoundary-at_seam, encodes-IsAscii}
use Rattle.std.specs.declared.ops.Range.{Range}
use Rattle.std.proofs.lemmas.{Bool.Decides.{nat_tests}, Grind.{common_steps}}
use Rattle.rustc_literal_escaper.specs.declared.element.Element.{Element, TheVariants.{Diagnostic}}
use Rattle.rustc_literal_escaper.specs.declared.error.EscapeError.TheVariants.{MultipleSkippedLinesWarning}
use Rattle.rustc_literal_escaper.specs.declared.error.EscapeError.TheVariants.{UnskippedWhitespaceWarning}
use Rattle.rustc_literal_escaper.specs.Answers.{items_of}
use Rattle.rustc_literal_escaper.specs.Grammar as g
use Rattle.rustc_literal_escaper.specs.Grammar.{AreItems, IsElementBefore, Item, bytes, is_newline, item, lines_warning}
use Rattle.rustc_literal_escaper.specs.Grammar.{space_warning, IsEscapeBefore, IsRawElement, is_passed_over}
use Rattle.rustc_literal_escaper.specs.Items.{ArePlaced, IsPlaced, AreLineEnds, IsMadeOf, IsRebuilt, is_unit}
use Rattle.rustc_literal_escaper.specs.Items.{is_warning, places_of}
use Rattle.rustc_literal_escaper.specs.laws.{Elements.{bytes-append, either}, TheAnswers.{items-are}}
use Rattle.rustc_literal_escaper.proofs.{FewLemmas.{some}, WrittenLemmas.{all-weaker, is-ascii}}

scalars-end : (front left : List ℕ) → all_scalars (front ++ left) ≡ true → all_scalars left ≡ true
scalars-end [] left e = e
scalars-end (c ∷ front) left e = scalars-end front left (and_parts _ (all_scalars (front ++ left)) e).1

-- A character has at least one byte, and so does an element.
bytes-some : (c : ℕ) (w : List ℕ) → 0 < bytes (c ∷ w)
bytes-some c w = omega (arith, length-le-encodes (c ∷ w))

element-some : {special next : List ℕ} {e : Element} {w : List ℕ} → IsElementBefore special next e w → 0 < bytes w
element-some {w = w} is = omega (arith, some is, length-le-encodes w)

module _ (text : List ℕ) (is : IsUtf8 text) where
  boundary : (before s : List ℕ) → before ++ s ≡ chars text → IsCharBoundary text (bytes before)
  boundary before s whole =
      let cut : text ≡ encode_utf8_all before ++ encode_utf8_all s = sym (encodes-chars text is)
      ∙ (ap encode_utf8_all (sym whole) ∙ encodes-append before s) in
      IsCharBoundary-at_seam text (encode_utf8_all before) (encode_utf8_all s) cut
      (s, (scalars-end before s (ap all_scalars whole ∙ scalars-chars text is), refl))

  -- Holds if `s` is the rest of the text from the offset `from` on.
  record Stands (from : ℕ) (s : List ℕ) : Type 0 where
    before : List ℕ
    at : from ≡ bytes before
    whole : before ++ s ≡ chars text

  past : (from : ℕ) (w next : List ℕ) → Stands from (w ++ next) → Stands (from + bytes w) next
  past from w next here = record {
    before = here.before ++ w;
    at = ap (λ (n : ℕ). n + bytes w) here.at ∙ sym (bytes-append here.before w);
    whole = append_assoc here.before w next ∙ here.whole;
  }

  item-placed : (from : ℕ) (e : Element) (w next : List ℕ) → 0 < bytes w → Stands from (w ++ next)
      → IsPlaced text (item from e w)
  item-placed from e w next some here = grind (arith, common_steps, past from w next here, boundary)

  if-placed : (b : Bool) (i : Item) → IsPlaced text i → ArePlaced text (if b then i ∷ [] else [])
  if-placed b i placed =
      either (ArePlaced text) b (i ∷ []) [] (All-cons (IsPlaced text) i [] placed (All-nil (IsPlaced text)))
      (All-nil (IsPlaced text))

  space-placed : (from : ℕ) (space next : List ℕ) → Stands from (92 ∷ 10 ∷ space ++ next)
      → ArePlaced text (space_warning from space next)
  space-placed from space [] here = All-nil (IsPlaced text)
  space-placed from space (c ∷ next) here =
      let line : List ℕ = 92 ∷ 10 ∷ (space ++ c ∷ []) in
      if-placed (is_whitespace c) (item from (Diagnostic UnskippedWhitespaceWarning) line)
      (item-placed from (Diagnostic UnskippedWhitespaceWarning) line next (bytes-some 92 (10 ∷ (space ++ c ∷ [])))
      (subst (Stands from) (ap (λ xs. 92 ∷ 10 ∷ xs) (sym (append_assoc space (c ∷ []) next))) here))

  placed : {raw : Bool} {from : ℕ} {s : List ℕ} {items : List Item} → AreItems raw from s items → Stands from s
      → ArePlaced text items
  placed g.nothing here = All-nil (IsPlaced text)
  placed (g.element {from} {next} {element = e} {w} {items} is other are) here =
      All-cons (IsPlaced text) (item from e w) items (item-placed from e w next (element-some is) here)
      (placed are (past from w next here))
  placed (g.raw_element {from} {c} {next} {element = e} {items} is are) here =
      All-cons (IsPlaced text) (item from e (c ∷ [])) items (item-placed from e (c ∷ []) next (bytes-some c []) here)
      (placed are (past from (c ∷ []) next here))
  placed (g.line_end {from} {next} {items} space all stops are) here =
      let line : List ℕ = 92 ∷ 10 ∷ space in
      All-append (IsPlaced text) (lines_warning from space ++ space_warning from space next) items
      (All-append (IsPlaced text) (lines_warning from space) (space_warning from space next)
      (if-placed (list_any is_newline space) (item from (Diagnostic MultipleSkippedLinesWarning) line)
      (item-placed from (Diagnostic MultipleSkippedLinesWarning) line next (bytes-some 92 (10 ∷ space)) here))
      (space-placed from space next here))
      (placed are (past from line next here))

  pub are_placed : (raw : Bool) → ArePlaced text (items_of raw text)
  are_placed raw = placed (items-are raw text is) (record { before = []; at = refl; whole = refl })

-- ---- the text is rebuilt from the ranges of its items

-- ---- no element is a warning

abbrev Tells : Element → Type 0
Tells e = is_warning e ≡ false

escape-tells : {next : List ℕ} {e : Element} {w : List ℕ} → IsEscapeBefore next e w → Tells e
escape-tells w0 = grind (arith, common_steps)

element-tells : {special next : List ℕ} {e : Element} {w : List ℕ} → IsElementBefore special next e w → Tells e
element-tells w0 = grind (arith, common_steps, escape-tells)

raw-tells : {e : Element} {c : ℕ} → IsRawElement e c → Tells e
raw-tells w0 = grind (arith, common_steps)

-- ---- skipped line endings

-- Its characters are ASCII, so they are its bytes.
line-ascii : (space : List ℕ) → list_all is_passed_over space ≡ true → encode_utf8_all (92 ∷ 10 ∷ space) ≡
    92 ∷ 10 ∷ space
line-ascii space all =
    encodes-IsAscii (92 ∷ 10 ∷ space)
    (is-ascii (92 ∷ 10 ∷ space) (all-weaker is_passed_over is_ascii (λ c e. grind (arith, nat_tests)) space all))

-- A skipped line ending in front of a text that consists of some ranges adds no range.
skip : (space : List ℕ) → list_all is_passed_over space ≡ true → (from : ℕ) (left : List ℕ) (places : List (Range ℕ))
    → IsMadeOf false (from + bytes (92 ∷ 10 ∷ space)) left places
    → IsMadeOf false from (92 ∷ 10 ∷ (space ++ left)) places
skip space e from left [] made = (space ∷ made.0, rw e made.1, ap (λ (xs : List ℕ). 92 ∷ 10 ∷ (space ++ xs)) made.2)
skip space e from left (r ∷ places) made = (
  made.0,
  record {
    skipped = 92 ∷ 10 ∷ (space ++ made.1.skipped);
    covered = made.1.covered;
    line_ends = (
      space ∷ made.1.line_ends.0,
      rw e made.1.line_ends.1,
      ap (λ (xs : List ℕ). 92 ∷ 10 ∷ (space ++ xs)) made.1.line_ends.2,
    );
    start = (let s = made.1.start in let l = length-append space made.1.skipped in
        let n = ap length (line-ascii space e) in omega arith);
    end = made.1.end;
    whole = ap (λ (xs : List ℕ). 92 ∷ 10 ∷ (space ++ xs)) made.1.whole
        ∙ ap (λ (xs : List ℕ). 92 ∷ 10 ∷ xs) (sym (append_assoc space made.1.skipped (made.1.covered ++ made.0)));
  },
  made.2,
)

-- Its warnings have no ranges.
if-none : (b : Bool) (i : Item) → is_unit i ≡ false → filter is_unit (if b then i ∷ [] else []) ≡ []
if-none b i e = grind (arith, common_steps)

space-none : (from : ℕ) (space next : List ℕ) → filter is_unit (space_warning from space next) ≡ []
space-none from space next = grind (arith, common_steps, if-none)

warnings-none : (from : ℕ) (space next : List ℕ) (items : List Item)
    → places_of (lines_warning from space ++ space_warning from space next ++ items) ≡ places_of items
warnings-none from space next items =
    grind (
      arith,
      common_steps,
      filter-append,
      if-none (list_any is_newline space)
          (item from (Diagnostic MultipleSkippedLinesWarning) (92 ∷ 10 ∷ space)) refl,
      space-none from space next,
    )

-- ---- the items of a text

none : (raw : Bool) → AreLineEnds raw []
none raw = grind (arith, common_steps)

-- An element adds its range in front of the ranges of the text after it.
one-made : (raw : Bool) (from : ℕ) (e : Element) (w next : List ℕ) (items : List Item) → Tells e
    → IsMadeOf raw (from + bytes w) (encode_utf8_all next) (places_of items)
    → IsMadeOf raw from (encode_utf8_all (w ++ next)) (places_of (item from e w ∷ items))
one-made raw from e w next items tells made =
    rw tells (
      encode_utf8_all next,
      record {
        skipped = [];
        covered = encode_utf8_all w;
        line_ends = none raw;
        start = (omega arith);
        end = refl;
        whole = encodes-append w next;
      },
      made,
    )

made : {raw : Bool} {from : ℕ} {s : List ℕ} {items : List Item} → AreItems raw from s items
    → IsMadeOf raw from (encode_utf8_all s) (places_of items)
made {raw} g.nothing = none raw
made (g.element {from} {next} {element = e} {w} {items} is other are) =
    one-made false from e w next items (element-tells is) (made are)
made (g.raw_element {from} {c} {next} {element = e} {items} is are) =
    one-made true from e (c ∷ []) next items (raw-tells is) (made are)
made (g.line_end {from} {next} {items} space all stops are) =
    rw (warnings-none from space next items, encodes-append (92 ∷ 10 ∷ space) next, line-ascii space all)
    (skip space all from (encode_utf8_all next) (places_of items) (made are))

pub is_rebuilt : (raw : Bool) (text : List ℕ) → IsUtf8 text → IsRebuilt raw text
is_rebuilt raw text is = subst (λ (xs : List ℕ). IsMadeOf raw 0 xs (places_of (items_of raw text)))
    (encodes-chars text is) (made (items-are raw text is))
