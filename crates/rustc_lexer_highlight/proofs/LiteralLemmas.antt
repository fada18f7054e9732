-- The text of a highlighted literal, and the calls that write it.
use Rattle.std.proofs.Common.{◌≡◌, ℕ, ◌+◌, ◌-◌, ◌<◌, ◌≤◌, Bool, List, [], ◌∷◌, ◌++◌, take, drop, refl, ap}
use Rattle.std.proofs.Common.{subst, ◌∙◌, arith, take-append-drop, length-drop, append-nil, length, IsCharBoundary}
use Rattle.std.proofs.{Common.{IsUtf8, Option, Some}, lemmas.{Bool.{cases_lt}, List.{drop-drop, get_or-take}}}
use Rattle.std.proofs.lemmas.List.{length-take-le, Concat.{flat_map-append}, Edits.{length-between}}
use Rattle.std.proofs.lemmas.{List.Elements.{All-head, All-tail}, Str.{IsCharBoundary-from_rest, IsCharBoundary-start}}
use Rattle.std.proofs.lemmas.{Str.{IsUtf8-between, encodes-chars}, Grind.{common_steps}}
use Rattle.std.specs.{Fmt.{WritesInCalls}, Str.{chars}, List.{between}}
use Rattle.rustc_lexer.specs.Classes.{bytes}
use Rattle.rustc_literal_escaper.specs.{Grammar.{Item}, Answers.{items_of}, Meaning.{is_raw}}
use Rattle.rustc_literal_escaper.specs.{laws.TheAnswers.{items-are}, Items.{ArePlaced, IsPlaced}}
use Rattle.rustc_literal_escaper.specs.declared.mode.Mode.{Mode}
use Rattle.rustc_lexer_highlight.specs.laws.{Literal.{stretches-read, the_stretches}, Pieces.{pieces-some, told}}
use Rattle.rustc_lexer_errors.specs.LineEnds.{char_error, file_items, place, unix}
use Rattle.rustc_lexer_highlight.specs.{declared.class.Class.TheVariants.{Text}}
use Rattle.rustc_lexer_highlight.specs.declared.{literal.{Look.{Look}, Painter.{Painter}}, format.Format.{Format}}
use Rattle.rustc_lexer_highlight.specs.{Answers.{stretches_of, string_stretches}, Literal.{Stretch, single_stretches}}
use Rattle.rustc_lexer_highlight.specs.Literal.{stretches_at, look_parts, parts_from, char_look}
use Rattle.rustc_lexer_highlight.specs.{Literal.{stretch}, Highlighted.{literal_parts}}
use Rattle.rustc_lexer_highlight.specs.model.Literal.{IsCut, Paints, WritesOn, element_look, gap, stretches_from}
use Rattle.rustc_lexer_highlight.specs.Part.{Own, own, with_markup, without_markup}
use Rattle.rustc_lexer_errors.proofs.LineEndLemmas.{utf8-unix}
use Rattle.rustc_lexer_highlight.proofs.{MovedLemmas.{items_placed, place-end}}
use Rattle.rustc_lexer_highlight.proofs.{MovedLemmas.{stretches-moved}, PartLemmas.{without_error, writes_parts}}
use Rattle.rustc_lexer_highlight.specs.Literal as lit
use Rattle.rustc_lexer_highlight.specs.model.Literal as model

without_look : (look : Look) (text : List ℕ) → without_markup (look_parts look text) ≡ text
without_look look text = grind (arith, common_steps, append-nil, without_error)

without_from : (at : ℕ) (left : List ℕ) (ss : List Stretch) → without_markup (parts_from at left ss) ≡ left
without_from at left [] = append-nil left
without_from at left (s ∷ ss) =
    grind (
      arith,
      common_steps,
      flat_map-append,
      without_look,
      take-append-drop,
      without_from s.end (drop (s.end - s.start) (drop (s.start - at) left)) ss,
    )

-- Without markup, the parts of a literal are its text, whatever its stretches are.
pub without_literal : (mode : Mode) (text : List ℕ) → without_markup (literal_parts mode text) ≡ text
without_literal mode text = without_from 0 text (stretches_of mode text)

-- ---- the stretches of a string, as the code finds them

pub string_found : (mode : Mode) (text : List ℕ) (begin close : ℕ) → IsUtf8 text → begin ≤ close
    → IsCharBoundary text begin → IsCharBoundary text close
    → model.string_stretches mode begin close text ≡ string_stretches mode begin close text
string_found mode text begin close utf8 le at_begin at_close =
    let inside : List ℕ = between begin close text in
    let left : List ℕ = unix inside in
    let is : IsUtf8 left = utf8-unix inside (IsUtf8-between text begin close utf8 le at_begin at_close) in
    let items = items-are (is_raw mode) left is in
    let pieces = (pieces-some mode items).all in
    let first : begin ≡ begin + place inside 0 = omega arith in
    let last : close ≡ begin + place inside (length left) =
    omega (arith, le, length-between text begin close at_close.0, place-end inside) in
    let ends : 0 + bytes (chars left) ≡ length left = omega (arith, ap length (encodes-chars left is)) in
    cc (
      stretches-moved mode begin inside 0 (length left) (items_of (is_raw mode) left),
      stretches-read pieces.1 items 0 (length left) ends,
      ((the_stretches mode 0 (chars left)).only tt (stretches_at 0 pieces.0)).0 (lit.made pieces.1),
    )

-- ---- offsets

-- A char boundary of the contents is a char boundary of the literal.
pub boundary_in : (text : List ℕ) (begin close k : ℕ) → begin ≤ close → IsCharBoundary text begin
    → IsCharBoundary text close → IsCharBoundary (between begin close text) k
    → (begin + k ≤ close) × IsCharBoundary text (begin + k)
boundary_in text begin close k order at_begin at_close at_k =
    grind (arith, common_steps, length-drop, length-take-le, cases_lt, IsCharBoundary-from_rest, get_or-take)

-- At the start, nothing has been written.
pub nothing_written : (text : List ℕ) (begin : ℕ) → IsUtf8 text → IsCharBoundary text begin → IsCut text 0 begin
nothing_written text begin utf8 at = record { first = IsCharBoundary-start text utf8; second = at; order = omega arith }

-- Holds if a range ends at or before `close`, is on char boundaries, and is not empty.
pub record Placed (text : List ℕ) (close start end : ℕ) : Type 0 where
  pub low : start < end
  pub high : end ≤ close
  pub at_start : IsCharBoundary text start
  pub at_end : IsCharBoundary text end

pub placed_first : (text : List ℕ) (begin close : ℕ) (items rest : List Item) (item : Item) → begin ≤ close
    → IsCharBoundary text begin → IsCharBoundary text close → ArePlaced (between begin close text) items
    → items ≡ item ∷ rest
    → Placed text close (begin + item.0.start) (begin + item.0.end) × ArePlaced (between begin close text) rest
placed_first text begin close items rest item order at_begin at_close are is =
    let all : ArePlaced (between begin close text) (item ∷ rest) =
    subst (ArePlaced (between begin close text)) is are in
    let one : IsPlaced (between begin close text) item = All-head (IsPlaced (between begin close text)) item rest all in
    let some : item.0.start < item.0.end = one.not_empty in
    let start = boundary_in text begin close item.0.start order at_begin at_close one.start in
    let end = boundary_in text begin close item.0.end order at_begin at_close one.end in (
      record { low = omega arith; high = end.0; at_start = start.1; at_end = end.1 },
      All-tail (IsPlaced (between begin close text)) item rest all,
    )

pub placed_all : (text inside : List ℕ) (begin close : ℕ) (raw : Bool) (items : List Item) → IsUtf8 inside
    → items ≡ file_items raw inside → inside ≡ between begin close text → ArePlaced (between begin close text) items
placed_all text inside begin close raw items utf8 are is = grind (arith, common_steps, items_placed)

-- ---- an item that has already been reported

told_already : (mode : Mode) (begin at close : ℕ) (items rest : List Item) (item : Item) → items ≡ item ∷ rest
    → begin + item.0.start < at → stretches_from mode begin at close items ≡ stretches_from mode begin at close rest
told_already mode begin at close items rest item is less = rw is (told mode begin close at item rest less)

-- ---- the calls

module _ {W : Type 0} (took : W → List ℕ → W → Type 0) where
  -- Writing the plain text before a stretch, and then the stretch.
  pub writes_stretch : (format : Format) (look : Look) (some : Option Look) (text plain own : List ℕ)
      (shown start end : ℕ) (w0 w1 w2 : W) → some ≡ Some look → shown ≤ start → start ≤ end
      → plain ≡ take (start - shown) (drop shown text) → own ≡ take (end - start) (drop start text)
      → WritesInCalls took w0 (with_markup format (Own Text plain ∷ [])) w1
      → WritesInCalls took w1 (with_markup format (look_parts look own)) w2
      → WritesOn took format text w0 shown (stretch start end some) w2 end
  writes_stretch format look some text plain own shown start end w0 w1 w2 is low high is_plain is_own a b =
      λ more last rest.
      let past : drop (start - shown) (drop shown text) ≡ drop start text = let same : shown + (start - shown) ≡ start =
      omega arith in rw same at (drop-drop (start - shown) shown text) in
      let behind : drop (end - start) (drop start text) ≡ drop end text = let same : start + (end - start) ≡ end =
      omega arith in rw same at (drop-drop (end - start) start text) in
      rw (is, past, behind, ← is_plain, ← is_own)
      (writes_parts took format (Own Text plain ∷ []) (look_parts look own ++ parts_from end (drop end text) more)
      w0 w1 last a (writes_parts took format (look_parts look own) (parts_from end (drop end text) more) w1 w2 last
      b rest))

  -- Holds if the rest of a literal, from the offset `shown` on, is written with these stretches.
  abbrev pub WritesLeft : Format → List ℕ → W → ℕ → List Stretch → W → Type 0
  WritesLeft format text w shown ss last =
      WritesInCalls took w (with_markup format (parts_from shown (drop shown text) ss)) last

  -- Writing some stretches, if no more follow.
  pub writes_last : (format : Format) (text rest : List ℕ) (shown to : ℕ) (ss : List Stretch) (w v u : W)
      → WritesOn took format text w shown ss v to → rest ≡ drop to text
      → WritesInCalls took v (with_markup format (Own Text rest ∷ [])) u
      → WritesLeft format text w shown ss u
  writes_last format text rest shown to ss w v u on is wrote =
      rw (append-nil ss) at (on [] u (rw is at wrote))

  -- A painter keeps its format and its text.
  painted : (p q : Painter) (format : Format) (text : List ℕ) (ss : List Stretch) (end : ℕ) (w v : W)
      → p.format ≡ format → p.text.now ≡ text
      → Paints took p w ss end q v → WritesOn took format text w p.shown ss v q.shown
  painted p q format text ss end w v same_format same_text on = rw (← same_format, ← same_text) on.writes

  -- Writing some stretches and then the rest of the literal.
  paints_last : (p q : Painter) (format : Format) (text : List ℕ) (ss : List Stretch) (end : ℕ) (w v u : W)
      → p.format ≡ format → p.text.now ≡ text
      → Paints took p w ss end q v
      → WritesInCalls took v (with_markup q.format (Own Text (drop q.shown q.text.now) ∷ [])) u
      → WritesLeft format text w p.shown ss u
  paints_last p q format text ss end w v u same_format same_text on wrote =
      writes_last format text (drop q.shown text) p.shown q.shown ss w v u
      (painted p q format text ss end w v same_format same_text on) refl
      (rw (on.format, same_format, on.text, same_text) at wrote)

  -- Writing the contents between single quotes.
  pub paints_single : (p q : Painter) (mode : Mode) (inside : List ℕ) (close : ℕ) (look : Option Look) (w v u : W)
      → look ≡ char_look (char_error mode inside) inside → inside ≡ between p.at close p.text.now
      → Paints took p w (stretch p.at close look) close q v
      → WritesInCalls took v (with_markup q.format (Own Text (drop q.shown q.text.now) ∷ [])) u
      → WritesLeft p.format p.text.now w p.shown (single_stretches mode p.at close p.text.now) u
  paints_single p q mode inside close look w v u looks is on wrote =
      rw (← is, ← looks) (paints_last p q p.format p.text.now (stretch p.at close look) close w v u refl refl on wrote)

  module _ (format : Format) (mode : Mode) (text : List ℕ) (begin close : ℕ) where
    -- An element that has already been reported is skipped.
    pub writes_told : (at shown : ℕ) (items rest : List Item) (item : Item) (w last : W) → items ≡ item ∷ rest
        → begin + item.0.start < at → WritesLeft format text w shown (stretches_from mode begin at close rest) last
        → WritesLeft format text w shown (stretches_from mode begin at close items) last
    writes_told at shown items rest item w last is less more = grind (arith, common_steps, told_already)

    -- Writing an element and the skipped text before it.
    writes_item : (at shown to next : ℕ) (items rest : List Item) (item : Item) (look : Option Look) (w v u last : W)
        → items ≡ item ∷ rest → at ≤ begin + item.0.start → look ≡ element_look mode item.1
        → WritesOn took format text w shown (gap at (begin + item.0.start)) v to
        → WritesOn took format text v to (stretch (begin + item.0.start) (begin + item.0.end) look) u next
        → WritesLeft format text u next (stretches_from mode begin (begin + item.0.end) close rest) last
        → WritesLeft format text w shown (stretches_from mode begin at close items) last
    writes_item at shown to next items rest item look w v u last is high looks a b more =
        grind (arith, common_steps)

    pub paints_item : (p q r : Painter) (items rest : List Item) (item : Item) (look : Option Look) (w v u last : W)
        → items ≡ item ∷ rest → p.at ≤ begin + item.0.start → look ≡ element_look mode item.1 → p.format ≡ format
        → p.text.now ≡ text
        → Paints took p w (gap p.at (begin + item.0.start)) (begin + item.0.start) q v
        → Paints took q v (stretch q.at (begin + item.0.end) look) (begin + item.0.end) r u
        → WritesLeft format text u r.shown (stretches_from mode begin r.at close rest) last
        → WritesLeft format text w p.shown (stretches_from mode begin p.at close items) last
    paints_item p q r items rest item look w v u last is high looks same_format same_text skipped highlighted more =
        let a = painted p q format text _ _ w v same_format same_text skipped in
        let b = rw skipped.at at (painted q r format text _ _ v u (skipped.format ∙ same_format)
        (skipped.text ∙ same_text) highlighted) in
        let left = rw highlighted.at at more in
        writes_item p.at p.shown q.shown r.shown items rest item look w v u last is high looks a b left

    -- After the last element, only the skipped text before the closing quote is left.
    pub writes_all : (inside : List ℕ) (shown : ℕ) (items : List Item) (w last : W)
        → items ≡ file_items (is_raw mode) inside → inside ≡ between begin close text
        → WritesLeft format text w shown (stretches_from mode begin begin close items) last
        → WritesLeft format text w shown (model.string_stretches mode begin close text) last
    writes_all inside shown items w last are is wrote = grind (arith, common_steps)

    pub paints_end : (p q : Painter) (items : List Item) (w v u : W) → items ≡ []
        → p.format ≡ format → p.text.now ≡ text → Paints took p w (gap p.at close) close q v
        → WritesInCalls took v (with_markup q.format (Own Text (drop q.shown q.text.now) ∷ [])) u
        → WritesLeft format text w p.shown (stretches_from mode begin p.at close items) u
    paints_end p q items w v u none same_format same_text on wrote =
        rw none (paints_last p q format text _ close w v u same_format same_text on wrote)
