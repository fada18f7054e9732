-- The contents of a string have pieces, and exactly one list of stretches: the one that the model finds in their items.
use Rattle.std.proofs.Common.{◌≡◌, ℕ, ◌+◌, ◌<◌, ◌≤◌, Bool, true, false, if◌then◌else◌, List, [], ◌∷◌, ◌++◌, refl, sym}
use Rattle.std.proofs.Common.{ap, subst, ◌∙◌, arith, append_assoc, append-nil, codes, Option, Some, None}
use Rattle.std.specs.{Char.{is_whitespace}, List.{list_all, list_any}}
use Rattle.std.proofs.lemmas.{Bool.{le-ltb, lt-ltb, Decides.{nat_tests}}, Grind.{common_steps}, Str.{length-le-encodes}}
use Rattle.rustc_lexer.specs.Classes.{Chars, bytes, next_is}
use Rattle.rustc_literal_escaper.specs.Grammar as the
use Rattle.rustc_literal_escaper.specs.Grammar.{AreItems, IsElementBefore, Item, is_among, is_newline, is_passed_over}
use Rattle.rustc_literal_escaper.specs.Grammar.{item, lines_warning, space_warning}
use Rattle.rustc_literal_escaper.specs.Meaning.{error_of}
use Rattle.rustc_literal_escaper.specs.laws.Elements.{bytes-append}
use Rattle.rustc_literal_escaper.specs.laws.Escape.{by_either}
use Rattle.rustc_literal_escaper.specs.declared.element.Element.{Element}
use Rattle.rustc_literal_escaper.specs.declared.element.Element.TheVariants.{Diagnostic, Plain}
use Rattle.rustc_literal_escaper.specs.declared.error.EscapeError.{EscapeError}
use Rattle.rustc_literal_escaper.specs.declared.error.EscapeError.TheVariants.{MultipleSkippedLinesWarning}
use Rattle.rustc_literal_escaper.specs.declared.error.EscapeError.TheVariants.{UnskippedWhitespaceWarning}
use Rattle.rustc_literal_escaper.specs.declared.mode.Mode.{Mode}
use Rattle.rustc_lexer_highlight.specs.declared.literal.Look.{Look}
use Rattle.rustc_lexer_highlight.specs.declared.literal.Look.TheVariants.{Escape, Wrong}
use Rattle.rustc_lexer_highlight.specs.Literal as lit
use Rattle.rustc_lexer_highlight.specs.Literal.{ArePieces, AreSkippedBefore, IsPieceBefore, Looks, Piece, Stretch}
use Rattle.rustc_lexer_highlight.specs.Literal.{is_plain, skipped}
use Rattle.rustc_lexer_highlight.specs.Literal.{stretch, stretches_at}
use Rattle.rustc_lexer_highlight.specs.model.Literal.{element_look, gap, look_by, stretches_from}

-- Returns a skipped line ending with the whitespace after it.
abbrev line : Chars → Chars
line space = codes "\\\n" ++ space

bytes-some : (c : ℕ) (w : Chars) → 0 < bytes (c ∷ w)
bytes-some c w = omega (arith, length-le-encodes (c ∷ w))

error-look : (mode : Mode) (error : EscapeError) → element_look mode (Diagnostic error) ≡ Some (Wrong error)
error-look mode error = grind (arith, common_steps)

none-look : (e : Element) → look_by None e ≡ (if is_plain e then None else Some Escape)
none-look e = grind (arith, common_steps)

looks-read : {mode : Mode} {e : Element} {look : Option Look} → Looks mode e look → element_look mode e ≡ look
looks-read (lit.wrong is) = rw is refl
looks-read {e} (lit.plain is plain) = rw is (none-look e ∙ rw plain refl)
looks-read {e} (lit.escape is other) = rw is (none-look e ∙ rw other refl)

looks-some : (mode : Mode) (e : Element) (o : Option EscapeError) → error_of mode e ≡ o → Looks mode e (look_by o e)
looks-some mode e (Some error) is = lit.wrong is
looks-some mode (Plain c) None is = lit.plain is refl
looks-some mode e None is = lit.escape is refl

-- ---- every text has pieces

module _ (mode : Mode) (raw : Bool) where
  abbrev pub HasPieces : Chars → Type 0
  HasPieces s = (pieces : List Piece) × ArePieces mode raw s pieces

-- Holds if the text has pieces, and also the text after its first character if that is whitespace.
pub record HasBoth (mode : Mode) (raw : Bool) (s : Chars) : Type 0 where
  pub all : HasPieces mode raw s
  pub past : (c : ℕ) (t : Chars) → s ≡ c ∷ t → is_whitespace c ≡ true → HasPieces mode raw t

-- An element that starts with whitespace is that one character.
one-char : {special next : Chars} {e : Element} {w : Chars} → IsElementBefore special next e w → (c : ℕ) (t : Chars)
    → w ++ next ≡ c ∷ t → is_whitespace c ≡ true → next ≡ t
one-char w0 c t w3 w4 = grind (arith, common_steps)

plain-space : (c : ℕ) → is_whitespace c ≡ true → is_passed_over c ≡ false → is_among (92 ∷ 13 ∷ 34 ∷ []) c ≡ false
plain-space c white stays = grind (arith, common_steps, nat_tests)

module _ (mode : Mode) where
  -- A text with pieces still has pieces if a line ending without a warning is put in front of it.
  skip : {s : Chars} {pieces : List Piece} → ArePieces mode false s pieces → (space : Chars)
      → list_all is_passed_over space ≡ true → list_any is_newline space ≡ false → next_is is_whitespace s ≡ false
      → HasPieces mode false (line space ++ s)
  skip (lit.last {gap = g} are) space all one quiet =
      (_, lit.last (lit.more space all one (ap (next_is is_whitespace) (append-nil g) ∙ quiet) are))
  skip (lit.more {gap = g} {w} {next} {look} {pieces} are is rest) space all one quiet =
      let more : List Piece = skipped (line (space ++ g)) ++ (w, look) ∷ pieces in (
        more,
        subst (λ (s : Chars). ArePieces mode false s more) (ap line (append_assoc space g (w ++ next)))
            (lit.more (lit.more space all one quiet are) is rest),
      )

  line-has : (space next : Chars) → list_all is_passed_over space ≡ true → next_is is_passed_over next ≡ false
      → HasBoth mode false next → HasPieces mode false (line space ++ next)
  line-has space next all stops has = by_either (list_any is_newline space)
      (λ many. (_, lit.more lit.none (lit.lines space all many stops) has.all.1))
      (λ one. by_next next one stops has)
    where
      by_next : (s : Chars) → list_any is_newline space ≡ false → next_is is_passed_over s ≡ false
          → HasBoth mode false s → HasPieces mode false (line space ++ s)
      by_next [] one stops has = skip has.all.1 space all one refl
      by_next (c ∷ t) one stops has = by_either (is_whitespace c)
          (λ white.
          let rest = has.past c t refl white in
          let pieces : List Piece = (line (space ++ c ∷ []), Some (Wrong UnskippedWhitespaceWarning)) ∷ rest.0 in (
            pieces,
            subst (λ (s : Chars). ArePieces mode false s pieces) (ap line (append_assoc space (c ∷ []) t))
                (lit.more lit.none (lit.white_space space c all one white stops) rest.1),
          ))
          (λ quiet. skip has.all.1 space all one quiet)

  pub pieces-some : {raw : Bool} {i : ℕ} {s : Chars} {items : List Item} → AreItems raw i s items → HasBoth mode raw s
  pieces-some the.nothing =
      record { all = (_, lit.last lit.none); past = λ c t e white. absurd (let not : [] ≡ c ∷ t = e in cc) }
  pieces-some (the.element {next} {element = e} {w} is other are) =
      let rest = pieces-some are in
      record {
        all = (_, lit.more lit.none (lit.element is other (looks-some mode e (error_of mode e) refl)) rest.all.1);
        past = λ c t e white. subst (HasPieces mode false) (one-char is c t e white) rest.all;
      }
  pieces-some (the.line_end {next} space all stops are) = grind (arith, common_steps, line-has, pieces-some are)
  pieces-some (the.raw_element {c} {next} {element = e} is are) =
      let rest = pieces-some are in
      record {
        all = (_, lit.more lit.none (lit.raw_element is (looks-some mode e (error_of mode e) refl)) rest.all.1);
        past = λ d t e white. subst (HasPieces mode true) (let same : next ≡ t = cc in same) rest.all;
      }

-- ---- the stretches of any pieces are found in the items

module _ (mode : Mode) (begin close : ℕ) where
  abbrev pub found : ℕ → List Item → List Stretch
  found at items = stretches_from mode begin at close items

  fresh : (at : ℕ) (i : Item) (items : List Item) {look : Option Look} {rest : List Stretch} → at ≤ begin + i.0.start
      → element_look mode i.1 ≡ look → found (begin + i.0.end) items ≡ rest
      → found at (i ∷ items) ≡ gap at (begin + i.0.start)
      ++ (stretch (begin + i.0.start) (begin + i.0.end) look ++ rest)
  fresh at i items le looks more = rw (le-ltb (begin + i.0.start) at le, looks, more) refl

  pub told : (at : ℕ) (i : Item) (items : List Item) → begin + i.0.start < at → found at (i ∷ items) ≡ found at items
  told at i items less = rw (lt-ltb (begin + i.0.start) at less) refl

  -- A second warning, which starts before `at`, adds no stretch.
  told-space : (at j : ℕ) (space next : Chars) (items : List Item) → begin + j < at
      → found at (space_warning j space next ++ items) ≡ found at items
  told-space at j space next items w5 = grind (arith, common_steps, told)

  -- Holds if a piece w at the offset j has items, and the model finds its stretch in them.
  record ReadsPiece (raw : Bool) (j : ℕ) (w next : Chars) (look : Option Look) (items : List Item) : Type 0 where
    all : List Item
    are : AreItems raw j (w ++ next) all
    same : (at : ℕ) → at ≤ begin + j
        → found at all ≡
        gap at (begin + j) ++ (stretch (begin + j) (begin + (j + bytes w)) look ++ found (begin + (j + bytes w)) items)

  piece-read : {raw : Bool} {next : Chars} {look : Option Look} {w : Chars} → IsPieceBefore mode next raw look w
      → (j : ℕ) (items : List Item) → AreItems raw (j + bytes w) next items → ReadsPiece raw j w next look items
  piece-read (lit.element {element = e} {w} is other looks) j items are = record {
    all = item j e w ∷ items;
    are = the.element is other are;
    same = λ at le. fresh at (item j e w) items le (looks-read looks) refl;
  }
  piece-read (lit.raw_element {element = e} {c} is looks) j items are = record {
    all = item j e (c ∷ []) ∷ items;
    are = the.raw_element is are;
    same = λ at le. fresh at (item j e (c ∷ [])) items le (looks-read looks) refl;
  }
  piece-read {next = next} (lit.lines space all many stops) j items are =
      let warning : Item = item j (Diagnostic MultipleSkippedLinesWarning) (line space) in
      let more : List Item = space_warning j space next ++ items in
      let is : (lines_warning j space ++ space_warning j space next) ++ items ≡ warning ∷ more = rw many refl in
      let some = bytes-some 92 (10 ∷ space) in
      record {
        all = warning ∷ more;
        are = subst (AreItems false j (line space ++ next)) is (the.line_end space all stops are);
        same = λ at le. fresh at warning more le (error-look mode MultipleSkippedLinesWarning)
            (told-space (begin + (j + bytes (line space))) j space next items (omega arith));
      }
  piece-read {next = next} (lit.white_space space c all one white stays) j items are =
      let w : Chars = line (space ++ c ∷ []) in
      let warning : Item = item j (Diagnostic UnskippedWhitespaceWarning) w in
      let character : Item = item (j + bytes (line space)) (Plain c) (c ∷ []) in
      let is : (lines_warning j space ++ space_warning j space (c ∷ next)) ++ character ∷ items ≡
      warning ∷ character ∷ items = rw (one, white) refl in
      let size : bytes w ≡ bytes (line space) + bytes (c ∷ []) = bytes-append (line space) (c ∷ []) in
      let some = bytes-some c [] in
      let after : AreItems false (j + bytes (line space) + bytes (c ∷ [])) next items =
      subst (λ (n : ℕ). AreItems false n next items) (omega arith) are in
      record {
        all = warning ∷ character ∷ items;
        are = subst (AreItems false j (w ++ next)) is
            (subst (λ (s : Chars). AreItems false j s
            ((lines_warning j space ++ space_warning j space (c ∷ next)) ++ character ∷ items))
            (ap line (sym (append_assoc space (c ∷ []) next)))
            (the.line_end space all stays
            (the.element (the.plain (plain-space c white stays))
            (λ e. absurd (let not : c ∷ [] ≡ 92 ∷ 10 ∷ [] = e in cc)) after)));
        same = λ at le. fresh at warning (character ∷ items) le (error-look mode UnskippedWhitespaceWarning)
            (told (begin + (j + bytes w)) character items (omega arith));
      }

  -- Line endings without a warning have no items.
  gap-read : {next : Chars} {raw : Bool} {g : Chars} → AreSkippedBefore next raw g → (i : ℕ) (items : List Item)
      → AreItems raw (i + bytes g) next items → AreItems raw i (g ++ next) items
  gap-read {next = next} {raw} lit.none i items are = subst (λ (n : ℕ). AreItems raw n next items) (omega arith) are
  gap-read {next = next} (lit.more {w} space all one quiet are) i items rest =
      let size : bytes (line (space ++ w)) ≡ bytes (line space) + bytes w = bytes-append (line space) w in
      let after : AreItems false (i + bytes (line space) + bytes w) next items =
      subst (λ (n : ℕ). AreItems false n next items) (omega arith) rest in
      let is : (lines_warning i space ++ space_warning i space (w ++ next)) ++ items ≡ items =
      rw (one, quiet-space i space (w ++ next) quiet) refl in
      subst (AreItems false i (line (space ++ w) ++ next)) is
      (subst (λ (s : Chars). AreItems false i s
      ((lines_warning i space ++ space_warning i space (w ++ next)) ++ items))
      (ap line (sym (append_assoc space w next)))
      (the.line_end space all (stops (w ++ next) quiet) (gap-read are (i + bytes (line space)) items after)))
    where
      quiet-space : (i : ℕ) (space s : Chars) → next_is is_whitespace s ≡ false → space_warning i space s ≡ []
      quiet-space i space [] quiet = refl
      quiet-space i space (c ∷ s) quiet = rw quiet refl

      stops : (s : Chars) → next_is is_whitespace s ≡ false → next_is is_passed_over s ≡ false
      stops [] quiet = refl
      stops (c ∷ s) quiet = grind (arith, common_steps, nat_tests)

  gap-stretch : (at : ℕ) (g : Chars) → gap at (at + bytes g) ≡ stretches_at at (skipped g)
  gap-stretch at g = grind (arith, common_steps, le-ltb, lt-ltb, bytes-some)

  past-gap : (at : ℕ) (g : Chars) (pieces : List Piece) → stretches_at at (skipped g ++ pieces) ≡
      stretches_at at (skipped g) ++ stretches_at (at + bytes g) pieces
  past-gap at g pieces = grind (arith, common_steps)

  pub record Reads (raw : Bool) (i : ℕ) (s : Chars) (pieces : List Piece) : Type 0 where
    pub items : List Item
    pub are : AreItems raw i s items
    pub same : found (begin + i) items ≡ stretches_at (begin + i) pieces

  pub pieces-read : {raw : Bool} {s : Chars} {pieces : List Piece} → ArePieces mode raw s pieces → (i : ℕ)
      → begin + (i + bytes s) ≡ close → Reads raw i s pieces
  pieces-read {raw} (lit.last {gap = g} are) i ends = record {
    items = [];
    are = subst (λ (s : Chars). AreItems raw i s []) (append-nil g) (gap-read are i [] the.nothing);
    same = ap (gap (begin + i)) (let to : close ≡ begin + i + bytes g = omega arith in to) ∙ gap-stretch (begin + i) g;
  }
  pieces-read {raw} (lit.more {gap = g} {w} {next} {look} {pieces} are is rest) i ends =
      let size : bytes (g ++ (w ++ next)) ≡ bytes g + (bytes w + bytes next) =
      bytes-append g (w ++ next) ∙ ap (λ (n : ℕ). bytes g + n) (bytes-append w next) in
      let j : ℕ = i + bytes g in
      let more = pieces-read rest (j + bytes w) (omega arith) in
      let one = piece-read is j more.items more.are in
      let at : begin + j ≡ begin + i + bytes g = omega arith in
      let to : begin + (j + bytes w) ≡ begin + i + bytes g + bytes w = omega arith in
      record {
        items = one.all;
        are = gap-read are i one.all one.are;
        same = one.same (begin + i) (omega arith)
            ∙ (ap (λ (ss : List Stretch). gap (begin + i) (begin + j)
            ++ (stretch (begin + j) (begin + (j + bytes w)) look ++ ss)) more.same
            ∙ (rw (at, to, gap-stretch (begin + i) g, past-gap (begin + i) g ((w, look) ∷ pieces)) refl));
      }
