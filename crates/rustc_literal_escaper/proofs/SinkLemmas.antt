-- Sinks, which consume items one by one.
use Rattle.std.proofs.Common.{◌≡◌, ℕ, Bool, true, false, List, [], ◌∷◌, ◌++◌, map, true≢false, Option, Some, None}
use Rattle.std.proofs.Common.{MatchOption, ◌<◌, length, if◌then◌else◌, refl, sym, ap, subst, ◌∙◌, arith, append_assoc}
use Rattle.rustc_literal_escaper.specs.declared.element.Element.{Element, TheVariants.{Diagnostic, Plain}}
use Rattle.rustc_literal_escaper.specs.declared.error.EscapeError.TheVariants.{MultipleSkippedLinesWarning}
use Rattle.std.specs.List.{FoldsTo, list_any}
use Rattle.std.proofs.lemmas.{Bool.Decides.{nat_tests}, Grind.{common_steps}, List.{map-append}}
use Rattle.rustc_literal_escaper.specs.Grammar.{is_newline, is_passed_over}
use Rattle.rustc_literal_escaper.specs.model.Escape.{escape, front_run, past_run, StartsWith}
use Rattle.rustc_literal_escaper.specs.{Grammar.{Error, Item}, Items.{TakesFirst}, Meaning.{error_of, errors_in, put}}
use Rattle.rustc_literal_escaper.specs.model.Sinks.{Runs, Takes}
use Rattle.rustc_literal_escaper.specs.model.Sinks as sinks
use Rattle.rustc_literal_escaper.specs.declared.{error.EscapeError.{EscapeError}, mode.Mode.{Mode}}
use Rattle.rustc_literal_escaper.specs.model.Elements.{begins_line, front_by, item_by, items_by, front, line_end}
use Rattle.rustc_literal_escaper.specs.model.Elements.{more_space, one, raw_element, raw_front, unescaped}
use Rattle.rustc_literal_escaper.specs.laws.Elements.{items-cons, items-one, left-shorter, nothing}

-- The step that starts with the first character.
pub raw_reads : (c : ℕ) (s : List ℕ) → raw_front c s ≡ one (raw_element c, s)
unfolding raw_front
raw_reads c s = refl

pub raw_above : (c : ℕ) (s : List ℕ) → 13 < c → raw_front c s ≡ one (Plain c, s)
unfolding raw_front
raw_above c s above = grind (arith, common_steps, nat_tests)

pub plain_reads : (c : ℕ) (s : List ℕ) → (c ≡ 92 → ⊥) → front c s ≡ one (unescaped c, s)
unfolding front
plain_reads c s other = grind (arith, common_steps)

pub plain_above : (c : ℕ) (s : List ℕ) → 34 < c → (c ≡ 92 → ⊥) → front c s ≡ one (Plain c, s)
unfolding front
plain_above c s above other = grind (arith, common_steps, nat_tests)

pub escape_reads : (c : ℕ) (s left : List ℕ) (e : Element) → c ≡ 92 → begins_line s ≡ false → (e, left) ≡ escape s
    → front c s ≡ one (e, left)
unfolding front
escape_reads c [] left e slash other read = grind (arith, common_steps)
escape_reads c (d ∷ s) left e slash other read = grind (arith, common_steps)

pub line_reads : (c : ℕ) (s t : List ℕ) (next : Option ℕ) → c ≡ 92 → StartsWith s next t → next ≡ Some 10
    → front c s ≡ line_end t
unfolding front
line_reads c s t next slash begins line = rw (slash, rw line at begins) refl

-- The items of a skipped line ending, and the items after it.
pub items_line : (offset : List ℕ → ℕ) (start c : ℕ) (xs ys zs left : List ℕ) (newline : Bool) (next : Option ℕ)
    → xs ≡ c ∷ ys → c ≡ 92 → StartsWith ys next zs → next ≡ Some 10 → start ≡ offset xs
    → newline ≡ list_any is_newline (front_run is_passed_over zs) → left ≡ past_run is_passed_over zs
    → items_by front offset xs ≡
    map (item_by offset start) (if newline then (Diagnostic MultipleSkippedLinesWarning, left) ∷ [] else [])
    ++ (map (item_by offset start) (more_space left) ++ items_by front offset left)
items_line offset start c xs ys zs left newline next is slash after line begins lines past =
    let here : offset (c ∷ ys) ≡ start = sym (begins ∙ ap offset is) in
    grind (
      arith,
      common_steps,
      items-cons false offset c ys,
      line_reads c ys zs next slash after line,
      map-append (item_by offset start),
      append_assoc {A = Item},
    )

-- Equal offset functions return equal offsets.
pub at_same : {f h : List ℕ → ℕ} {n : ℕ} (xs : List ℕ) → n ≡ f xs → f ≡ h → n ≡ h xs
at_same xs e same = e ∙ ap (λ (k : List ℕ → ℕ). k xs) same

-- Each step shortens the text.
pub less_left : (c : ℕ) (xs ys left : List ℕ) → xs ≡ c ∷ ys → (front c ys).left ≡ left → length left < length xs
less_left c xs ys left is e = omega (arith, ap length is, ap length e, left-shorter false c ys)

module _ {S : Type 0} (took : S → Item → Bool → S → Type 0) where
  -- The sink consumes an item, and the items after it if it returns true.
  pub taken : (more : Bool) (s u t : S) (i : Item) (items left : List Item) → took s i more u
      → (more ≡ true → Runs took u items t left)
      → (more ≡ false → (u ≡ t) × (items ≡ left))
      → Runs took s (i ∷ items) t left
  taken true s u t i items left took_one more enough = sinks.more took_one (more refl)
  taken false s u t i items left took_one more enough =
      let e = enough refl in
      subst (λ (v : S). Runs took s (i ∷ items) v left) e.0
      (subst (λ (is : List Item). Runs took s (i ∷ items) u is) e.1 (sinks.enough took_one))

  -- The sink consumes a warning.
  pub warning_taken : (more : Bool) (s u : S) (offset : List ℕ → ℕ) (start end : ℕ) (found : List (Element × List ℕ))
      (ys : List ℕ) (e : Element)
      → found ≡ (e, ys) ∷ [] → end ≡ offset ys → took s (record { start = start; end = end }, e) more u
      → Takes took s (map (item_by offset start) found) more u
  warning_taken more s u offset start end found ys e is at took_one = λ t items left on enough.
      rw (is, ← at) (taken more s u t _ items left took_one on enough)

  -- There is no warning.
  pub none_taken : (s : S) (found : List Item) → found ≡ [] → Takes took s found true s
  none_taken s found none = λ t items left on enough. rw none (on refl)

  -- At the end of the text, there are no more items.
  pub at_end : (s : S) (raw : Bool) (offset : List ℕ → ℕ) (xs ys : List ℕ) → xs ≡ [] → ys ≡ []
      → Runs took s (items_by (front_by raw) offset xs) s (items_by (front_by raw) offset ys)
  at_end s raw offset xs ys a b = rw (a, b, nothing (front_by raw) offset) sinks.all

  -- The sink consumes an element.
  module _ (raw : Bool) (offset : List ℕ → ℕ) {more : Bool} {s u : S} {start end : ℕ} {xs ys zs : List ℕ} {c : ℕ}
      {e : Element}
      (is : xs ≡ c ∷ ys) (reads : front_by raw c ys ≡ one (e, zs)) (begins : start ≡ offset xs) (ends : end ≡ offset zs)
      (took_one : took s (record { start = start; end = end }, e) more u) where
    one_taken : (t : S) (left : List Item) → (more ≡ true → Runs took u (items_by (front_by raw) offset zs) t left)
        → (more ≡ false → (u ≡ t) × (items_by (front_by raw) offset zs ≡ left))
        → Runs took s (items_by (front_by raw) offset xs) t left
    one_taken t left on enough =
        let here : offset (c ∷ ys) ≡ start = sym (begins ∙ ap offset is) in
        rw (is, items-one raw offset c ys zs e reads, here, ← ends) (taken more s u t _ _ left took_one on enough)

    pub one_more : more ≡ true → (t : S) (left : List Item) → Runs took u (items_by (front_by raw) offset zs) t left
        → Runs took s (items_by (front_by raw) offset xs) t left
    one_more on t left runs = one_taken t left (λ e. runs) (λ off. absurd (true≢false (sym on ∙ off)))

    pub one_enough : more ≡ false
        → Runs took s (items_by (front_by raw) offset xs) u (items_by (front_by raw) offset zs)
    one_enough off = one_taken u _ (λ on. absurd (true≢false (sym on ∙ off))) (λ e. (refl, refl))

  -- If the sink stops at one of the items `found`, it consumes no items after them.
  pub takes_enough : (on : Bool) (s u : S) (found items : List Item) → Takes took s found on u → on ≡ false
      → Runs took s (found ++ items) u items
  takes_enough on s u found items takes off =
      takes u items items (λ e. absurd (true≢false (sym e ∙ off))) (λ e. (refl, refl))

  pub takes_more : (on : Bool) (s u t : S) (found items left : List Item) → Takes took s found on u → on ≡ true
      → Runs took u items t left → Runs took s (found ++ items) t left
  takes_more on s u t found items left takes e runs =
      takes t items left (λ also. runs) (λ off. absurd (true≢false (sym e ∙ off)))

-- ---- the results of the sinks

module _ {S P : Type 0} (took : S → Item → Bool → S → Type 0) (inner : S → P) where
  -- A sink that consumes all items.
  pub folds_items : (R : P → Item → P → Type 0)
      → ((s t : S) (i : Item) (more : Bool) → took s i more t → (more ≡ true) × R (inner s) i (inner t))
      → {s t : S} {items left : List Item} → Runs took s items t left → FoldsTo R (inner s) items (inner t)
  folds_items R each sinks.all = refl
  folds_items R each (sinks.more {u} took_one runs) = (inner u, (each _ _ _ _ took_one).1, folds_items R each runs)
  folds_items R each (sinks.enough took_one) = absurd (true≢false (sym (each _ _ _ _ took_one).0))

  -- A sink that consumes all items and keeps the errors.
  pub folds_errors : (mode_of : S → Mode) (R : P → Error → P → Type 0)
      → ((s t : S) (i : Item) (more : Bool) → took s i more t → (more ≡ true) × (mode_of t ≡ mode_of s)
      × MatchOption (error_of (mode_of s) i.1) (inner t ≡ inner s) (λ error. R (inner s) (i.0, error) (inner t)))
      → {s t : S} {items left : List Item} → Runs took s items t left
      → FoldsTo R (inner s) (errors_in (mode_of s) items) (inner t)
  folds_errors mode_of R each sinks.all = refl
  folds_errors mode_of R each (sinks.more {s} {u} {t} {item} {items} took_one runs) =
      let is = each _ _ _ _ took_one in
      put-folds (error_of (mode_of s) item.1) is.2
      (subst (λ (mode : Mode). FoldsTo R (inner u) (errors_in mode items) (inner t)) is.1
      (folds_errors mode_of R each runs))
    where
      put-folds : (wrong : Option EscapeError)
          → MatchOption wrong (inner u ≡ inner s) (λ error. R (inner s) (item.0, error) (inner u))
          → FoldsTo R (inner u) (errors_in (mode_of s) items) (inner t)
          → FoldsTo R (inner s) (put item.0 wrong (errors_in (mode_of s) items)) (inner t)
      put-folds None same rest = subst (λ (p : P). FoldsTo R p (errors_in (mode_of s) items) (inner t)) same rest
      put-folds (Some error) step rest = (inner u, step, rest)
  folds_errors mode_of R each (sinks.enough took_one) = absurd (true≢false (sym (each _ _ _ _ took_one).0))

module _ {S : Type 0} (took : S → Item → Bool → S → Type 0) where
  -- A sink that stops after one item.
  pub takes_item : (found : S → Option Item)
      → ((s t : S) (i : Item) (more : Bool) → took s i more t → (more ≡ false) × (found t ≡ Some i))
      → {s t : S} {items left : List Item} → found s ≡ None → Runs took s items t left → TakesFirst items (found t) left
  takes_item found each none sinks.all = rw none (refl, refl)
  takes_item found each none (sinks.more took_one runs) = absurd (true≢false (each _ _ _ _ took_one).0)
  takes_item found each none (sinks.enough took_one) = rw (each _ _ _ _ took_one).1 refl

  -- A sink that stops after the first error.
  pub takes_error : (mode_of : S → Mode) (found : S → Option Error)
      → ((s t : S) (i : Item) (more : Bool) → took s i more t
      → MatchOption (error_of (mode_of s) i.1) ((more ≡ true) × (t ≡ s))
      (λ error. (more ≡ false) × (found t ≡ Some (i.0, error))))
      → {s t : S} {items left : List Item} → found s ≡ None → Runs took s items t left
      → TakesFirst (errors_in (mode_of s) items) (found t) (errors_in (mode_of s) left)
  takes_error mode_of found each none sinks.all = rw none (refl, refl)
  takes_error mode_of found each none (sinks.more {s} {u} {t} {item} {items} {left} took_one runs) =
      by_error (error_of (mode_of s) item.1) (each _ _ _ _ took_one) (λ no. takes_error mode_of found each no runs)
    where
      by_error : (wrong : Option EscapeError)
          → MatchOption wrong ((true ≡ true) × (u ≡ s)) (λ error. (true ≡ false) × (found u ≡ Some (item.0, error)))
          → (found u ≡ None → TakesFirst (errors_in (mode_of u) items) (found t) (errors_in (mode_of u) left))
          → TakesFirst (put item.0 wrong (errors_in (mode_of s) items)) (found t) (errors_in (mode_of s) left)
      by_error None same rest =
          subst (λ (mode : Mode). TakesFirst (errors_in mode items) (found t) (errors_in mode left)) (ap mode_of same.1)
          (rest (ap found same.1 ∙ none))
      by_error (Some error) wrong rest = absurd (true≢false wrong.0)
  takes_error mode_of found each none (sinks.enough {s} {t} {item} {items} took_one) =
      by_error (error_of (mode_of s) item.1) (each _ _ _ _ took_one)
    where
      by_error : (wrong : Option EscapeError)
          → MatchOption wrong ((false ≡ true) × (t ≡ s)) (λ error. (false ≡ false) × (found t ≡ Some (item.0, error)))
          → TakesFirst (put item.0 wrong (errors_in (mode_of s) items)) (found t) (errors_in (mode_of s) items)
      by_error None same = absurd (true≢false (sym same.0))
      by_error (Some error) wrong = rw wrong.1 refl
