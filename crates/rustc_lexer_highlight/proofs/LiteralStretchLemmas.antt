-- The stretches of a string are in order, and invalid exactly where the escaper reports errors.
use Rattle.std.proofs.Common.{◌≡◌, ℕ, ◌+◌, ◌<◌, ◌≤◌, ◌⊎◌, inl, inr, nat_lt, not, if◌then◌else◌, Bool, true, false, List}
use Rattle.std.proofs.Common.{[], ◌∷◌, ◌++◌, length, map, slice_index_or, refl, sym, ap, ◌∙◌, subst, arith, append-nil}
use Rattle.std.proofs.Common.{append_assoc, codes, All, IsCharBoundary, IsUtf8, Option, Some, None}
use Rattle.std.specs.{Char.{is_whitespace}, List.{between, list_all, list_any}, declared.ops.Range.{Range}}
use Rattle.std.proofs.lemmas.Bool.{cases_lt, ltb-false, ltb-true, Decides.{nat_tests}}
use Rattle.std.proofs.lemmas.List.Elements.{All-append, All-cons, All-head, All-map, All-nil, All-tail, All-weaker}
use Rattle.std.proofs.lemmas.List.Elements.{Contains-append_right}
use Rattle.std.proofs.lemmas.{Grind.{common_steps}, List.Edits.{length-between}, Str.{IsUtf8-between}}
use Rattle.rustc_lexer.specs.laws.Choice.{by_test}
use Rattle.rustc_literal_escaper.specs.Answers.{items_of}
use Rattle.rustc_literal_escaper.specs.Grammar as the
use Rattle.rustc_literal_escaper.specs.Grammar.{AreItems, Error, Item, bytes, is_newline, item, lines_warning}
use Rattle.rustc_literal_escaper.specs.Grammar.{space_warning}
use Rattle.rustc_literal_escaper.specs.{Items.{IsPlaced}, Meaning.{error_of, errors_in, is_raw, is_single, put}}
use Rattle.rustc_literal_escaper.specs.{laws.TheAnswers.{items-are}, declared.element.Element.{Element}}
use Rattle.rustc_literal_escaper.specs.declared.element.Element.TheVariants.{Diagnostic, Plain}
use Rattle.rustc_literal_escaper.specs.declared.error.EscapeError.{EscapeError}
use Rattle.rustc_literal_escaper.specs.declared.error.EscapeError.TheVariants.{MultipleSkippedLinesWarning}
use Rattle.rustc_literal_escaper.specs.declared.error.EscapeError.TheVariants.{UnskippedWhitespaceWarning}
use Rattle.rustc_literal_escaper.specs.declared.mode.Mode.{Mode}
use Rattle.rustc_literal_escaper.proofs.PlacedLemmas.{are_placed}
use Rattle.rustc_lexer_highlight.specs.declared.literal.Look.{Look, TheVariants.{Escape, Wrong}}
use Rattle.rustc_lexer_highlight.specs.Answers.{stretches_in, string_stretches}
use Rattle.rustc_lexer_errors.specs.LineEnds.{file_items, moved, place as file_place, unix}
use Rattle.rustc_lexer_highlight.specs.Literal.{Stretch, is_plain, single_stretches, stretch}
use Rattle.rustc_lexer_highlight.specs.LiteralStretches.{AreInOrder, IsHighlighted, IsReported, is_escaped, is_in}
use Rattle.rustc_lexer_highlight.specs.model.Literal as model
use Rattle.rustc_lexer_highlight.specs.model.Literal.{gap, look_by, stretches_from}
use Rattle.rustc_lexer_errors.proofs.{FileErrorLemmas.{string_errors}, LineEndLemmas.{place_less, utf8-unix}}
use Rattle.rustc_lexer_highlight.proofs.{LiteralLemmas.{string_found}, MovedLemmas.{place-end, place-le}}

error-told : (mode : Mode) (error : EscapeError) → error_of mode (Diagnostic error) ≡ Some error
error-told mode error = grind (arith, common_steps)

-- Returns an item with its range in the file.
abbrev move : List ℕ → Item → Item
move s i = (moved s i.0, i.1)

module _ (mode : Mode) (begin close : ℕ) where
  abbrev place : Item → ℕ
  place i = begin + i.0.start

  -- Like `IsShown`; and an item outside of all invalid stretches has no error.
  abbrev IsTold : List Stretch → Item → Type 0
  IsTold ss i = (is_in ss (place i) ≡ true)
      ⊎ ((error_of mode i.1 ≡ None) × (is_escaped ss (place i) ≡ not (is_plain i.1)))

  -- The invariant of the stretches from the offset `at` on and of these items, some of which can start before it.
  record Invariant (at : ℕ) (items : List Item) (ss : List Stretch) : Type 0 where
    order : AreInOrder at ss close
    wrong : All (IsReported begin (errors_in mode items)) ss
    told : All (λ (i : Item). (place i < at) ⊎ IsTold ss i) items

  -- ---- one more stretch, and one more item

  further : (at to : ℕ) (look : Option Look) (ss : List Stretch) → at < to → AreInOrder to ss close
      → AreInOrder at (stretch at to look ++ ss) close
  further at to None [] less order = omega (arith, less, order)
  further at to None (s ∷ ss) less order = (omega (arith, less, order.0), order.1, order.2)
  further at to (Some look) ss less order = (omega arith, less, order)

  -- No escape is before the first stretch.
  not-yet : (at p : ℕ) (ss : List Stretch) → AreInOrder at ss close → p < at → is_escaped ss p ≡ false
  not-yet at p [] order less = refl
  not-yet at p (s ∷ ss) order less =
      grind (arith, common_steps, nat_tests, not-yet s.end p ss order.2 (omega (arith, less, order.0, order.1)))

  -- Another stretch in front does not change what holds for a later item.
  past : (at to : ℕ) (look : Option Look) (ss : List Stretch) (i : Item) → at ≤ to → to ≤ place i → IsTold ss i
      → IsTold (stretch at to look ++ ss) i
  past at to look ss i w5 w6 w7 = grind (arith, common_steps, nat_tests)

  more : (at to : ℕ) (look : Option Look) (items : List Item) (ss : List Stretch) → at < to
      → All (λ (i : Item). (to ≤ place i) ⊎ IsTold (stretch at to look ++ ss) i) items
      → All (IsReported begin (errors_in mode items)) (stretch at to look) → Invariant to items ss
      → Invariant at items (stretch at to look ++ ss)
  more at to look items ss less each reported invariant = record {
    order = further at to look ss less invariant.order;
    wrong = All-append (IsReported begin (errors_in mode items)) (stretch at to look) ss reported invariant.wrong;
    told = λ k d low. inr (elim (each k d low) [
      | inl high ↦ elim (invariant.told k d low) [
        | inl before ↦ absurd (omega (arith, high, before))
        | inr told ↦
            past at to look ss (slice_index_or items k d) (omega (arith, less)) high told
      ]
      | inr told ↦ told
    ]);
  }

  more-errors : (range : Range ℕ) (o : Option EscapeError) (errors : List Error) (ss : List Stretch)
      → All (IsReported begin errors) ss → All (IsReported begin (put range o errors)) ss
  more-errors range None errors ss are = are
  more-errors range (Some error) errors ss are =
      All-weaker (IsReported begin errors) (IsReported begin ((range, error) ∷ errors))
      (λ s is other looks. let r = is other looks in
      (r.0, r.1, r.2, Contains-append_right {X = Error} ((range, error) ∷ []) errors (r.0, other) r.3)) ss are

  -- An item that starts before all of these stretches belongs to an earlier stretch.
  earlier : (at : ℕ) (i : Item) (items : List Item) (ss : List Stretch) → place i < at → Invariant at items ss
      → Invariant at (i ∷ items) ss
  earlier at i items ss less invariant = grind (arith, common_steps, more-errors)

  -- An escape is not invalid.
  fine : (errors : List Error) (at to : ℕ) → All (IsReported begin errors) (stretch at to (Some Escape))
  fine errors at to = All-cons (IsReported begin errors) (record { start = at; end = to; look = Escape }) []
      (λ error looks. absurd (let no : Escape ≡ Wrong error = looks in cc)) (All-nil (IsReported begin errors))

  skipped : (at to : ℕ) (items : List Item) (ss : List Stretch) → at ≤ to → All (λ (i : Item). to ≤ place i) items
      → Invariant to items ss → Invariant at items (gap at to ++ ss)
  skipped at to items ss le after invariant =
      by_test (λ (front : List Stretch). Invariant at items (front ++ ss)) (nat_lt at to)
      (stretch at to (Some Escape)) []
      (λ some. more at to (Some Escape) items ss (ltb-true at to some) (λ k d low. inl (after k d low))
      (fine (errors_in mode items) at to) invariant)
      (λ none. let same : to ≡ at = omega (arith, le, ltb-false at to none) in rw same at invariant)

  -- ---- an item, and its stretch

  -- Holds if no item starts before this offset.
  abbrev BeginFrom : ℕ → List Item → Type 0
  BeginFrom from items = All (λ (x : Item). from ≤ x.0.start) items

  module _ (range : Range ℕ) (items : List Item) (ss : List Stretch) (some : range.start < range.end)
      (low : BeginFrom range.start items) (invariant : Invariant (begin + range.end) items ss) where
    abbrev at : ℕ
    at = begin + range.start

    abbrev to : ℕ
    to = begin + range.end

    -- The case of an item without an error.
    quiet : (e : Element) (look : Option Look) → error_of mode e ≡ None → is_escaped (stretch at to look ++ ss) at ≡
        not (is_plain e) → BeginFrom range.end items
        → All (IsReported begin (errors_in mode items)) (stretch at to look)
        → Invariant at ((range, e) ∷ items) (stretch at to look ++ ss)
    quiet e look is here high reported = more at to look ((range, e) ∷ items) ss (omega (arith, some))
        (All-cons (λ (x : Item). (to ≤ place x) ⊎ IsTold (stretch at to look ++ ss) x) (range, e) items
        (inr (inr (is, here))) (λ k d less. inl (omega (arith, high k d less)))) (rw is reported)
        (earlier to (range, e) items ss (omega (arith, some)) invariant)

    own : (e : Element) (o : Option EscapeError) → error_of mode e ≡ o → (o ≡ None → BeginFrom range.end items)
        → Invariant at ((range, e) ∷ items) (stretch at to (look_by o e) ++ ss)
    own e (Some error) is high =
        let errors : List Error = (range, error) ∷ errors_in mode items in
        more at to (Some (Wrong error)) ((range, e) ∷ items) ss (omega (arith, some))
        (λ k d less.
        let x : Item = slice_index_or ((range, e) ∷ items) k d in
        let after = All-cons (λ (x : Item). range.start ≤ x.0.start) (range, e) items (omega arith) low k d less in
        elim (cases_lt (place x) to) [
          | inl inside ↦ inr (inl (grind (arith, common_steps, nat_tests)))
          | inr far ↦
              inl far
        ])
        (rw is (All-cons (IsReported begin errors) (record { start = at; end = to; look = Wrong error }) []
        (λ other looks. (range, refl, refl, (0, omega arith, let w : Wrong error ≡ Wrong other = looks in cc)))
        (All-nil (IsReported begin errors)))) (earlier to (range, e) items ss (omega (arith, some)) invariant)
    own (Plain c) None is high = quiet (Plain c) None is (not-yet to at ss invariant.order (omega (arith, some)))
        (high refl) (All-nil (IsReported begin (errors_in mode items)))
    own e None is high = quiet e (Some Escape) is (grind (arith, common_steps, nat_tests)) (high refl)
        (fine (errors_in mode items) at to)

  -- ---- the items of a text

  abbrev Fits : Item → Type 0
  Fits i = (i.0.start < i.0.end) × (begin + i.0.end ≤ close)

  -- Holds if no item starts before the offset `from`, and the items have stretches with this invariant.
  record Claim (from : ℕ) (items : List Item) : Type 0 where
    begins : BeginFrom from items
    invariant : (at : ℕ) → at ≤ close → All Fits items → Invariant at items (stretches_from mode begin at close items)

  one : (i : Item) (items : List Item) → (error_of mode i.1 ≡ None → BeginFrom i.0.end items) → Claim i.0.start items
      → Claim i.0.start (i ∷ items)
  one i items high claim = record {
    begins = All-cons (λ (x : Item). i.0.start ≤ x.0.start) i items (omega arith) claim.begins;
    invariant = λ at le fit.
        let fits = All-head Fits i items fit in
        let rest = All-tail Fits i items fit in
        by_test (Invariant at (i ∷ items)) (nat_lt (place i) at) _ _
        (λ told. earlier at i items _ (ltb-true (place i) at told) (claim.invariant at le rest))
        (λ fresh. skipped at (place i) (i ∷ items) _ (ltb-false (place i) at fresh)
        (All-cons (λ (x : Item). place i ≤ place x) i items (omega arith)
        (λ k d low. omega (arith, claim.begins k d low)))
        (own i.0 items _ fits.0 claim.begins (claim.invariant (begin + i.0.end) fits.1 rest) i.1
        (error_of mode i.1) refl high));
  }

  -- The same for the items of `unix s`, with their ranges in s.
  module _ (s : List ℕ) where
    abbrev Moved : ℕ → List Item → Type 0
    Moved from items = Claim (file_place s from) (map (move s) items)

    warned : (b : Bool) (from : ℕ) (error : EscapeError) (w : List ℕ) (items : List Item) → Moved from items
        → Moved from ((if b then item from (Diagnostic error) w ∷ [] else []) ++ items)
    warned b from error w items claim =
        let i : Item = item from (Diagnostic error) w in
        by_test (λ (front : List Item). Moved from (front ++ items)) b (i ∷ []) []
        (λ _. one (move s i) (map (move s) items)
        (λ none. absurd (let no : Some error ≡ None = sym (error-told mode error) ∙ none in cc)) claim) (λ _. claim)

    warned-space : (from : ℕ) (space next : List ℕ) (items : List Item) → Moved from items
        → Moved from (space_warning from space next ++ items)
    warned-space from space [] items claim = claim
    warned-space from space (c ∷ next) items claim =
        warned (is_whitespace c) from UnskippedWhitespaceWarning (codes "\\\n" ++ space ++ c ∷ []) items claim

    further-on : (from : ℕ) (w : List ℕ) (items : List Item) → Moved (from + bytes w) items → Moved from items
    further-on from w items claim =
        record {
          begins = λ k d low. omega
              (arith, place-le s from (from + bytes w) (omega arith), claim.begins k d low);
          invariant = claim.invariant;
        }

    element : (from : ℕ) (e : Element) (w : List ℕ) (items : List Item) → Moved (from + bytes w) items
        → Moved from (item from e w ∷ items)
    element from e w items rest =
        one (move s (item from e w)) (map (move s) items) (λ _. rest.begins) (further-on from w items rest)

    claims : {raw : Bool} {from : ℕ} {t : List ℕ} {items : List Item} → AreItems raw from t items → Moved from items
    claims (the.nothing {raw} {from}) = grind (arith, common_steps, append-nil, skipped)
    claims (the.element {from} {element = e} {w} {items} is other are) = element from e w items (claims are)
    claims (the.raw_element {from} {c} {element = e} {items} is are) = element from e (c ∷ []) items (claims are)
    claims (the.line_end {from} {next} {items} space all stops are) =
        let rest = warned-space from space next items (further-on from (codes "\\\n" ++ space) items (claims are)) in
        rw append_assoc (warned (list_any is_newline space) from MultipleSkippedLinesWarning (codes "\\\n" ++ space)
        (space_warning from space next ++ items) rest)

all-in : (mode : Mode) (begin close : ℕ) (ss : List Stretch) (items : List Item)
    → All (IsTold mode begin close ss) items
    → list_all (λ (e : Error). is_in ss (begin + e.0.start)) (errors_in mode items) ≡ true
all-in mode begin close ss [] told = refl
all-in mode begin close ss (i ∷ items) told =
    grind (
      arith,
      common_steps,
      All-head (IsTold mode begin close ss) i items told,
      all-in mode begin close ss items
          (All-tail (IsTold mode begin close ss) i items told),
    )

pub strings_highlighted : (mode : Mode) (begin close : ℕ) (text : List ℕ) → IsUtf8 text → IsCharBoundary text begin
    → IsCharBoundary text close → begin ≤ close → is_single mode ≡ false → IsHighlighted mode begin close text
strings_highlighted mode begin close text utf8 at_begin at_close le double =
    let inside : List ℕ = between begin close text in
    let found : List Item = items_of (is_raw mode) (unix inside) in
    let items : List Item = file_items (is_raw mode) inside in
    let is : IsUtf8 (unix inside) = utf8-unix inside (IsUtf8-between text begin close utf8 le at_begin at_close) in
    let fit : All (Fits mode begin close) items =
    All-map (Fits mode begin close) (move inside) found
    (All-weaker (IsPlaced (unix inside)) (λ (i : Item). Fits mode begin close (move inside i))
    (λ i placed. (
      place_less inside i.0.start i.0.end placed.not_empty,
      omega (
        arith,
        le,
        length-between text begin close at_close.0,
        place-end inside,
        place-le inside i.0.end (length (unix inside)) placed.end.0,
      ),
    )) found
    (are_placed (unix inside) is (is_raw mode))) in
    let claim = claims mode begin close inside (items-are (is_raw mode) (unix inside) is) in
    let invariant = claim.invariant begin le fit in
    let same : model.string_stretches mode begin close text ≡ stretches_in mode begin close text =
    string_found mode text begin close utf8 le at_begin at_close
    ∙ ap (λ (b : Bool). if b then single_stretches mode begin close text else string_stretches mode begin close
    text) (sym double) in
    let told : All (IsTold mode begin close (model.string_stretches mode begin close text)) items =
    λ k d low. elim (invariant.told k d low) [ inl early ↦ absurd (omega (arith, early)) | inr told ↦ told ] in
    record {
      order = rw (← same) invariant.order;
      wrong = rw (← same, ← string_errors mode inside double) invariant.wrong;
      all = rw (← same, ← string_errors mode inside double)
          (all-in mode begin close (model.string_stretches mode begin close text) items told);
      shown = rw (← same) (λ k d low. elim (told k d low) [ inl wrong ↦ inl wrong | inr other ↦ inr other.1 ]);
    }
