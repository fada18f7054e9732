-- Between double quotes, the model reads exactly the items of the grammar.
use Rattle.std.proofs.Common.{◌≡◌, ℕ, zero, suc, ◌+◌, ◌≤◌, ◌==◌, Bool, true, false, true≢false, if◌then◌else◌, List, []}
use Rattle.std.proofs.Common.{◌∷◌, ◌++◌, length, length-append, append_assoc, map, refl, sym, ap, subst, ◌∙◌, arith}
use Rattle.std.specs.{List.{list_all}, Str.{encode_utf8_all}}
use Rattle.std.proofs.lemmas.{Bool.{cond_both, eqb-true, or_parts}, List.{append_cancel_right, map-append}}
use Rattle.std.proofs.lemmas.{Str.{encodes-append}, Bool.Decides.{nat_tests}, Grind.{common_steps}}
use Rattle.rustc_literal_escaper.specs.declared.element.Element.{Element}
use Rattle.rustc_literal_escaper.specs.declared.element.Element.TheVariants.{Diagnostic, Plain}
use Rattle.rustc_literal_escaper.specs.declared.error.EscapeError.TheVariants.{BareCarriageReturn}
use Rattle.rustc_literal_escaper.specs.declared.error.EscapeError.TheVariants.{BareCarriageReturnInRawString}
use Rattle.rustc_literal_escaper.specs.declared.error.EscapeError.TheVariants.{EscapeOnlyChar}
use Rattle.rustc_literal_escaper.specs.declared.error.EscapeError.TheVariants.{MultipleSkippedLinesWarning}
use Rattle.rustc_literal_escaper.specs.declared.error.EscapeError.TheVariants.{UnskippedWhitespaceWarning}
use Rattle.rustc_literal_escaper.specs.Grammar as g
use Rattle.rustc_literal_escaper.specs.Grammar.{AreItems, IsElementBefore, IsRawElement, Item, bytes, is_among}
use Rattle.rustc_literal_escaper.specs.Grammar.{is_newline, is_passed_over, item, lines_warning, next_is, space_warning}
use Rattle.rustc_literal_escaper.specs.laws.Escape.{Reads, at-char, by_either, element-is, element-reads, escape-is}
use Rattle.rustc_literal_escaper.specs.laws.Escape.{run-all, run-cut, run-is, run-stops}
use Rattle.rustc_literal_escaper.specs.model.Elements.{Front, front, front_by, raw_element, raw_front, item_at, item_by}
use Rattle.rustc_literal_escaper.specs.model.Elements.{items_by, items_from, items_in, line_end, more_lines, more_space}
use Rattle.rustc_literal_escaper.specs.model.Elements.{one, past_backslash, place, unescaped}
use Rattle.rustc_literal_escaper.specs.model.Escape.{escape, front_run, past_run}

pub either : {A : Type 0} (P : A → Type 0) (b : Bool) (x y : A) → P x → P y → P (if b then x else y)
either P b x y p q = grind (arith, common_steps)

-- ---- a step does not lengthen the text

past_run-shorter : (p : ℕ → Bool) (s : List ℕ) → length (past_run p s) ≤ length s
past_run-shorter p [] = omega arith
past_run-shorter p (c ∷ s) = either (λ (left : List ℕ). length left ≤ suc (length s)) (p c) (past_run p s) (c ∷ s)
    (let l = past_run-shorter p s in omega arith) (omega arith)

escape-shorter : (s : List ℕ) → length (escape s).1 ≤ length s
escape-shorter s = let is = escape-is s in omega (arith, ap length is.1, length-append is.0 (escape s).1)

past_backslash-shorter : (s : List ℕ) → length (past_backslash s).left ≤ length s
past_backslash-shorter [] = escape-shorter []
past_backslash-shorter (c ∷ s) = either (λ (f : Front). length f.left ≤ suc (length s)) (is_newline c) (line_end s)
    (one (escape (c ∷ s)))
    (let l = past_run-shorter is_passed_over s in omega arith) (escape-shorter (c ∷ s))

pub left-shorter : (raw : Bool) (c : ℕ) (s : List ℕ) → length (front_by raw c s).left ≤ length s
unfolding front raw_front
left-shorter raw c s = grind (arith, common_steps, nat_tests, either, past_backslash-shorter)

-- ---- any sufficient number of steps gives the same items

module _ (raw : Bool) (offset : List ℕ → ℕ) where
  abbrev at : ℕ → List ℕ → Front
  at = front_by raw

  enough : (m n : ℕ) (s : List ℕ) → length s ≤ m → length s ≤ n → items_in at m offset s ≡ items_in at n offset s
  enough zero zero [] a b = refl
  enough zero (suc n) [] a b = refl
  enough (suc m) zero [] a b = refl
  enough (suc m) (suc n) [] a b = refl
  enough (suc m) (suc n) (c ∷ s) a b = grind (arith, common_steps, left-shorter, enough m n)
  enough m n (c ∷ s) a b = absurd (omega arith)

  pub items-cons : (c : ℕ) (s : List ℕ) → items_by at offset (c ∷ s) ≡ map (item_by offset (offset (c ∷ s)))
      (at c s).found ++ items_by at offset (at c s).left
  unfolding items_by
  items-cons c s = grind (arith, common_steps, left-shorter, enough)

  -- A step that reports one element.
  pub items-one : (c : ℕ) (s left : List ℕ) (e : Element) → at c s ≡ one (e, left)
      → items_by at offset (c ∷ s) ≡ item_by offset (offset (c ∷ s)) (e, left) ∷ items_by at offset left
  items-one c s left e is =
      items-cons c s ∙ ap (λ (f : Front). map (item_by offset (offset (c ∷ s))) f.found ++ items_by at offset f.left) is

-- The empty text has no items.
pub nothing : (at : ℕ → List ℕ → Front) (offset : List ℕ → ℕ) → items_by at offset [] ≡ []
unfolding items_by
nothing at offset = refl

-- ---- the model reads the items of the grammar

-- The length of a concatenation is the sum of the lengths.
pub bytes-append : (w s : List ℕ) → bytes (w ++ s) ≡ bytes w + bytes s
bytes-append w s = ap length (encodes-append w s) ∙ length-append (encode_utf8_all w) (encode_utf8_all s)

-- The item of an element at the start of a text.
item-at : (total from : ℕ) (w next : List ℕ) (e : Element) → from + bytes (w ++ next) ≡ total
    → item_at total (place total (w ++ next)) (e, next) ≡ item from e w
item-at total from w next e ends = let sizes = bytes-append w next in grind (arith, common_steps)

-- An unescaped character between double quotes.
unescaped-is : (c : ℕ) (s : List ℕ) → (c == 92) ≡ false → IsElementBefore (34 ∷ []) s (unescaped c) (c ∷ [])
unescaped-is c s slash =
    cond_both (c == 34) (Diagnostic EscapeOnlyChar) _ (λ (e : Element). IsElementBefore (34 ∷ []) s e (c ∷ []))
    (λ a. g.unescaped (rw a refl)) (λ a.
    cond_both (c == 13) (Diagnostic BareCarriageReturn) (Plain c)
    (λ (e : Element). IsElementBefore (34 ∷ []) s e (c ∷ []))
    (at-char (λ x. IsElementBefore (34 ∷ []) s (Diagnostic BareCarriageReturn) (x ∷ [])) c 13 g.bare)
    (λ b. g.plain (rw (slash, b, a) refl)))

unescaped-plain : (c : ℕ) → is_among (92 ∷ 13 ∷ 34 ∷ []) c ≡ false → unescaped c ≡ Plain c
unescaped-plain c out = grind (arith, common_steps, or_parts)

unescaped-special : (c : ℕ) → is_among (34 ∷ []) c ≡ true
    → ((c == 92) ≡ false) × (unescaped c ≡ Diagnostic EscapeOnlyChar)
unescaped-special c among = grind (arith, common_steps, nat_tests)

abbrev ReadsDouble : List ℕ → Element → List ℕ → Type 0
ReadsDouble = Reads (34 ∷ []) unescaped unescaped-plain unescaped-special refl unescaped-is

double-reads : {next : List ℕ} {e : Element} {w : List ℕ} → IsElementBefore (34 ∷ []) next e w → ReadsDouble next e w
double-reads = element-reads (34 ∷ []) unescaped unescaped-plain unescaped-special refl unescaped-is

-- A backslash that is not before a newline starts an element.
past_backslash-one : (v next : List ℕ) (e : Element) → escape (v ++ next) ≡ (e, next) → (v ≡ 10 ∷ [] → ⊥)
    → past_backslash (v ++ next) ≡ one (e, next)
past_backslash-one v next e read other = by_text (v ++ next) refl
  where
    by_text : (s : List ℕ) → v ++ next ≡ s → past_backslash s ≡ one (e, next)
    by_text [] text = ap one (sym (ap escape text) ∙ read)
    by_text (d ∷ t) text = by_either (is_newline d)
        (λ n.
        let line : v ++ next ≡ 10 ∷ t = text ∙ ap (λ x. x ∷ t) (eqb-true d 10 n) in
        let same : t ≡ next = ap (λ (r : Element × List ℕ). r.1) (sym (ap escape line) ∙ read) in
        absurd (other (append_cancel_right v (10 ∷ []) next (line ∙ ap (λ xs. 10 ∷ xs) same))))
        (λ n. rw n (ap one (sym (ap escape text) ∙ read)))

element-front : {next : List ℕ} {e : Element} {w : List ℕ} → (r : ReadsDouble next e w) → (w ≡ 92 ∷ 10 ∷ [] → ⊥)
    → front r.first (r.others ++ next) ≡ one (e, next)
unfolding front
element-front {next} {e} {w} r other = by_either (r.first == 92)
    (λ slash.
    let read : escape (r.others ++ next) ≡ (e, next) =
    subst (λ (b : Bool). (if b then escape (r.others ++ next) else (unescaped r.first, r.others ++ next)) ≡
    (e, next)) slash r.read in
    let same : r.first ≡ 92 = eqb-true r.first 92 slash in
    rw slash (past_backslash-one r.others next e read
    (λ (n : r.others ≡ 10 ∷ []). other (r.whole ∙ (ap (λ x. x ∷ r.others) same ∙ ap (λ xs. 92 ∷ xs) n)))))
    (λ none. rw none
    (ap one (subst (λ (b : Bool). (if b then escape (r.others ++ next) else (unescaped r.first, r.others ++ next)) ≡
    (e, next)) none r.read)))

raw-reads : {e : Element} {c : ℕ} → IsRawElement e c → (next : List ℕ) → raw_front c next ≡ one (e, next)
unfolding raw_front
raw-reads is next = grind (arith, common_steps, nat_tests)

-- The warnings of a skipped line ending.
lines-found : (total from : ℕ) (space next : List ℕ) → from + bytes (92 ∷ 10 ∷ space ++ next) ≡ total
    → map (item_at total (place total (92 ∷ 10 ∷ space ++ next))) (more_lines space next) ≡ lines_warning from space
lines-found total from space next ends =
    grind (arith, common_steps, item-at total from (92 ∷ 10 ∷ space) next (Diagnostic MultipleSkippedLinesWarning) ends)

space-found : (total from : ℕ) (space next : List ℕ) → from + bytes (92 ∷ 10 ∷ space ++ next) ≡ total
    → map (item_at total (place total (92 ∷ 10 ∷ space ++ next))) (more_space next) ≡ space_warning from space next
space-found total from space [] ends = refl
space-found total from space (c ∷ next) ends =
    grind (
      arith,
      common_steps,
      append_assoc space (c ∷ []) next,
      item-at total from (92 ∷ 10 ∷ (space ++ c ∷ [])) next
          (Diagnostic UnskippedWhitespaceWarning) (rw (append_assoc space (c ∷ []) next) ends),
    )

line-read : (space next : List ℕ) → list_all is_passed_over space ≡ true → next_is is_passed_over next ≡ false
    → front 92 (10 ∷ space ++ next) ≡ record { found = more_lines space next ++ more_space next; left = next }
unfolding front
line-read space next all stops = let run = run-is is_passed_over space next all stops in grind (arith, common_steps)

-- The end of the text after w.
past-ends : (total from : ℕ) (w next : List ℕ) → from + bytes (w ++ next) ≡ total → from + bytes w + bytes next ≡ total
past-ends total from w next ends = let sizes = bytes-append w next in omega arith

pub items-read : {raw : Bool} {from : ℕ} {s : List ℕ} {items : List Item} → AreItems raw from s items → (total : ℕ)
    → from + bytes s ≡ total → items_from (front_by raw) total s ≡ items
items-read {raw} g.nothing total ends = nothing (front_by raw) (place total)
items-read (g.element {from} {next} {element = e} {w} {items} is other are) total ends =
    let r = double-reads is in
    grind (
      arith,
      common_steps,
      r.whole,
      items-one false (place total) r.first (r.others ++ next) next e
          (element-front r other),
      item-at total from w next e ends,
      items-read are total (past-ends total from w next ends),
    )
items-read (g.line_end {from} {next} {items} space all stops are) total ends =
    items-cons false (place total) 92 (10 ∷ space ++ next)
    ∙ rw (
      line-read space next all stops,
      map-append (item_at total (place total (92 ∷ 10 ∷ space ++ next)))
          (more_lines space next) (more_space next),
      lines-found total from space next ends,
      space-found total from space next ends,
      items-read are total (past-ends total from (92 ∷ 10 ∷ space) next ends),
    )
    refl
items-read (g.raw_element {from} {c} {next} {element = e} {items} is are) total ends =
    grind (
      arith,
      common_steps,
      items-one true (place total) c next next e (raw-reads is next),
      item-at total from (c ∷ []) next e ends,
      items-read are total (past-ends total from (c ∷ []) next ends),
    )

-- ---- every text has items

abbrev HasItems : Bool → ℕ → List ℕ → Type 0
HasItems raw from s = (items : List Item) × AreItems raw from s items

raw-has : (c : ℕ) → IsRawElement (raw_element c) c
raw-has c = cond_both (c == 13) (Diagnostic BareCarriageReturnInRawString) (Plain c) (λ (e : Element). IsRawElement e c)
    (at-char (λ x. IsRawElement (Diagnostic BareCarriageReturnInRawString) x) c 13 g.bare) (λ e. g.plain e)

line-has : (from : ℕ) (t : List ℕ) → ((at : ℕ) → HasItems false at (past_run is_passed_over t))
    → HasItems false from (92 ∷ 10 ∷ t)
line-has from t rest =
    let space : List ℕ = front_run is_passed_over t in
    let next : List ℕ = past_run is_passed_over t in
    let items = rest (from + bytes (92 ∷ 10 ∷ space)) in
    subst (HasItems false from) (ap (λ xs. 92 ∷ 10 ∷ xs) (sym (run-cut is_passed_over t))) (
      lines_warning from space ++ space_warning from space next ++ items.0,
      g.line_end space (run-all is_passed_over t)
          (run-stops is_passed_over t) items.1,
    )

element-has : (from c : ℕ) (s : List ℕ) → (c ≡ 92 → (t : List ℕ) → s ≡ 10 ∷ t → ⊥)
    → ((at : ℕ) (left : List ℕ) → length left ≤ length s → HasItems false at left) → HasItems false from (c ∷ s)
element-has from c s other rest =
    let has = element-is (34 ∷ []) unescaped unescaped-plain unescaped-special refl unescaped-is c s in
    let left : List ℕ = (if c == 92 then escape s else (unescaped c, s)).1 in
    let items = rest (from + bytes (c ∷ has.others)) left
    (omega (arith, ap length has.whole, length-append has.others left)) in
    subst (HasItems false from) (ap (λ xs. c ∷ xs) (sym has.whole)) (
      _,
      g.element has.is (λ (e : c ∷ has.others ≡ 92 ∷ 10 ∷ []). let line : has.others ≡ 10 ∷ [] = cc in
          other (cc) left (has.whole ∙ ap (λ xs. xs ++ left) line)) items.1,
    )

double-has : (from c : ℕ) (s : List ℕ) → ((at : ℕ) (left : List ℕ) → length left ≤ length s → HasItems false at left)
    → HasItems false from (c ∷ s)
double-has from c [] rest = element-has from c [] (λ e t f. absurd (cc)) rest
double-has from c (d ∷ t) rest = by_either (c == 92)
    (λ slash. by_either (d == 10)
    (λ line. at-char (λ x. HasItems false from (x ∷ d ∷ t)) c 92
    (at-char (λ y. HasItems false from (92 ∷ y ∷ t)) d 10
    (line-has from t (λ at. rest at (past_run is_passed_over t) (let short = past_run-shorter is_passed_over t in
    omega arith))) line) slash)
    (λ none. element-has from c (d ∷ t) (λ e u f. let line : d ≡ 10 = cc in
    absurd (true≢false (sym (ap (λ (x : ℕ). x == 10) line) ∙ none))) rest))
    (λ none. element-has from c (d ∷ t) (λ e u f. absurd (true≢false (sym (ap (λ (x : ℕ). x == 92) e) ∙ none))) rest)

pub items-some : (raw : Bool) (n : ℕ) (s : List ℕ) (from : ℕ) → length s ≤ n → HasItems raw from s
items-some raw n [] from fits = ([], g.nothing)
items-some raw zero (c ∷ s) from fits = absurd (omega arith)
items-some true (suc n) (c ∷ s) from fits = let rest = items-some true n s (from + bytes (c ∷ [])) (omega arith) in
    (_, g.raw_element (raw-has c) rest.1)
items-some false (suc n) (c ∷ s) from fits =
    double-has from c s (λ at left few. items-some false n left at (omega arith))
