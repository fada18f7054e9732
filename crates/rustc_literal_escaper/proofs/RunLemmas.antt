-- Skipping runs of simple characters.
use Rattle.std.proofs.Common.{◌≡◌, ℕ, ◌≤◌, ◌==◌, nat_lt, not, Bool, List, ◌++◌, length, take, drop, None, arith}
use Rattle.std.proofs.Common.{sym, ap, ◌∙◌, [], ◌∷◌, refl, length-append, subst, ◌-◌, ◌+◌, ◌<◌, true, false, get_or, nat_le}
use Rattle.std.proofs.Common.{if◌then◌else◌}
use Rattle.std.specs.{Char.{is_ascii}, List.{list_all, prefix_len, FoldsTo}}
use Rattle.std.specs.Str.{chars, IsAscii, IsCharBoundary, IsUtf8, encode_utf8_all}
use Rattle.std.proofs.lemmas.{Bool.{and_from, and_parts, not-true}, List.{append-nil, nil_from_length, take-append-drop}}
use Rattle.std.proofs.lemmas.List.FromFn.{get_or-map-range_with_len}
use Rattle.std.proofs.lemmas.Str.{chars-append, chars-IsAscii, chars-nil, IsCharBoundary-from_take, IsUtf8-from_ascii}
use Rattle.std.proofs.lemmas.Str.{encodes-append, encodes-chars, encodes-IsAscii}
use Rattle.rustc_literal_escaper.specs.declared.simple.TheConstants.{SIMPLE}
use Rattle.std.proofs.lemmas.Grind.{common_steps}
use Rattle.rustc_literal_escaper.specs.declared.{element.Element.TheVariants.{Plain}, mode.Mode.{Mode}}
use Rattle.rustc_literal_escaper.specs.{Meaning.{error_of, errors_in, is_raw, is_single}, model.Plain.{is_ascii_value, is_simple, Passes}}
use Rattle.rustc_literal_escaper.specs.model.Plain.{plain_items, simple_level}
use Rattle.rustc_literal_escaper.specs.Items.{is_plain}
use Rattle.rustc_literal_escaper.proofs.{LaneLemmas.{run_front}, WrittenLemmas.{all-weaker, is-ascii}}
use Rattle.rustc_literal_escaper.specs.{Answers.{errors_of}, Grammar.{Item}, laws.Elements.{items-one, nothing}}
use Rattle.rustc_literal_escaper.specs.model.{Elements.{front_by, items_by, items_from, place}, Sinks.{IgnoresSimple, Runs}}
use Rattle.rustc_literal_escaper.specs.model.Sinks as sinks
use Rattle.rustc_literal_escaper.proofs.AnswerLemmas.{errors_of-items}
use Rattle.rustc_literal_escaper.proofs.ItemLemmas.{front_by-plain, items-plain}

pub simple-parts : (raw : Bool) (c : ℕ) → is_simple raw c ≡ true → (nat_lt c 128 ≡ true) × (not (c == 0) ≡ true)
    × (is_plain raw c ≡ true)
simple-parts raw c e = grind (arith, common_steps, and_parts)

-- A simple character is plain and has no error.
pub simple-fine : (mode : Mode) (raw : Bool) (c : ℕ) → is_simple raw c ≡ true → (is_plain raw c ≡ true)
    × (error_of mode (Plain c) ≡ None)
simple-fine mode raw c e = grind (arith, common_steps, simple-parts, not-true)

-- Simple characters are ASCII, so a run of them is a run of bytes.
pub simple-ascii : (raw : Bool) (bs : List ℕ) → list_all (is_simple raw) bs ≡ true → IsAscii bs
simple-ascii raw bs e = is-ascii bs (all-weaker (is_simple raw) is_ascii (λ c f. (simple-parts raw c f).0) bs e)

pub chars-simple : (raw : Bool) (run left : List ℕ) → list_all (is_simple raw) run ≡ true
    → chars (run ++ left) ≡ run ++ chars left
chars-simple raw run left e =
    grind (arith, common_steps, simple-ascii raw run e, chars-append run left, IsUtf8-from_ascii run, chars-IsAscii run)

pub passes-simple : (raw : Bool) (bs : List ℕ) (n : ℕ) → n ≤ prefix_len (is_simple raw) bs
    → Passes (is_simple raw) (chars bs) (chars (drop n bs))
passes-simple raw bs n run =
    let all = run_front (is_simple raw) bs n run in
    record {
      passed = take n bs;
      all = all;
      whole = ap chars (sym (take-append-drop n bs))
          ∙ chars-simple raw (take n bs) (drop n bs) all;
    }

pub passes-none : (raw : Bool) (s : List ℕ) → Passes (is_simple raw) s s
passes-none raw s = record { passed = []; all = refl; whole = refl }

-- A text of simple bytes.
pub passes-all : (bs : List ℕ) → list_all (is_simple true) bs ≡ true → Passes (is_simple true) (chars bs) []
unfolding chars
passes-all bs e = record {
  passed = bs;
  all = e;
  whole = ap chars (sym (append-nil bs)) ∙ chars-simple true bs [] e;
}

-- The end of such a run is a char boundary.
pub cut-simple : (raw : Bool) (bs : List ℕ) (n : ℕ) → IsUtf8 bs → n ≤ length bs → n ≤ prefix_len (is_simple raw) bs
    → IsCharBoundary bs n
cut-simple raw bs n is within run =
    IsCharBoundary-from_take bs n is within
    (IsUtf8-from_ascii (take n bs) (simple-ascii raw (take n bs) (run_front (is_simple raw) bs n run)))

-- Skipping such a run does not change the errors.
module _ (mode : Mode) (raw : Bool) (total : ℕ) where
  errors-past : (passed left : List ℕ) → list_all (is_simple raw) passed ≡ true
      → errors_in mode (items_from (front_by raw) total left) ≡
      errors_in mode (items_from (front_by raw) total (passed ++ left))
  errors-past [] left e = refl
  errors-past (c ∷ cs) left e =
      grind (arith, common_steps, and_parts, items-plain, simple-fine mode raw c, errors-past cs left)

  pub simple_same : (s left : List ℕ) → Passes (is_simple raw) s left
      → errors_in mode (items_from (front_by raw) total left) ≡ errors_in mode (items_from (front_by raw) total s)
  simple_same s left p = errors-past p.passed left p.all
      ∙ ap (λ (t : List ℕ). errors_in mode (items_from (front_by raw) total t)) (sym p.whole)

-- A consumer that ignores simple characters can skip a run of them.
module _ {S : Type 0} (took : S → Item → Bool → S → Type 0) (raw : Bool) (offset : List ℕ → ℕ) (s t : S)
    (items : List Item) (ignores : IgnoresSimple took s) where
  runs-past : (passed left : List ℕ) → list_all (is_simple raw) passed ≡ true
      → Runs took s (items_by (front_by raw) offset left) t items
      → Runs took s (items_by (front_by raw) offset (passed ++ left)) t items
  runs-past [] left e runs = runs
  runs-past (c ∷ cs) left e runs =
      let parts = and_parts _ _ e in
      rw (items-one raw offset c (cs ++ left) (cs ++ left) (Plain c)
      (front_by-plain raw c (cs ++ left) (simple-parts raw c parts.0).2))
      (sinks.more (ignores raw c _ parts.0) (runs-past cs left parts.1 runs))

  pub runs_skipped : (xs left : List ℕ) → Passes (is_simple raw) xs left
      → Runs took s (items_by (front_by raw) offset left) t items
      → Runs took s (items_by (front_by raw) offset xs) t items
  runs_skipped xs left p runs = rw p.whole (runs-past p.passed left p.all runs)

-- ---- the items of a run

pub simple-values : (raw : Bool) (bs : List ℕ) → list_all (is_simple raw) bs ≡ true → list_all is_ascii_value bs ≡ true
simple-values raw bs e =
    all-weaker (is_simple raw) is_ascii_value
    (λ c f. let p = simple-parts raw c f in and_from (nat_lt c 128) (not (c == 0)) p.0 p.1) bs e

pub passes-run : (raw : Bool) (text run left : List ℕ) → list_all (is_simple raw) run ≡ true → text ≡ run ++ left
    → Passes (is_simple raw) (chars text) (chars left)
passes-run raw text run left all whole =
    record { passed = run; all = all; whole = ap chars whole ∙ chars-simple raw run left all }

module _ (raw : Bool) (total : ℕ) where
  place-run : (run s : List ℕ) → list_all (is_simple raw) run ≡ true
      → place total (run ++ s) ≡ place total s - length run
  place-run run s e =
      grind (
        arith,
        common_steps,
        encodes-append run s,
        encodes-IsAscii run (simple-ascii raw run e),
        length-append run (encode_utf8_all s),
      )

  items-run : (run s : List ℕ) → list_all (is_simple raw) run ≡ true
      → items_from (front_by raw) total (run ++ s) ≡
      plain_items (place total s) run ++ items_from (front_by raw) total s
  items-run [] s e = refl
  items-run (b ∷ bs) s e =
      grind (arith, common_steps, and_parts, items-plain, simple-parts, place-run, items-run bs s)

  pub run-items : (rest run left : List ℕ) → list_all (is_simple raw) run ≡ true → rest ≡ run ++ left → IsUtf8 left
      → items_from (front_by raw) total (chars rest) ≡
      plain_items (total - length left) run ++ items_from (front_by raw) total (chars left)
  run-items rest run left e whole is = grind (arith, common_steps, chars-simple, items-run, encodes-chars)

  pub items-nothing : (left : List ℕ) → length left ≡ 0 → items_from (front_by raw) total (chars left) ≡ []
  items-nothing left e =
      ap (λ (xs : List ℕ). items_from (front_by raw) total (chars xs)) (nil_from_length left e)
      ∙ (ap (λ (s : List ℕ). items_from (front_by raw) total s) chars-nil ∙ nothing (front_by raw) (place total))

  pub errors-nothing : (mode : Mode) (left : List ℕ) → length left ≡ 0
      → errors_in mode (items_from (front_by raw) total (chars left)) ≡ []
  errors-nothing mode left e = ap (errors_in mode) (items-nothing left e)

-- The items of a text are those of the run at its start, and those of the text after it.
module _ (raw : Bool) (text run left : List ℕ) (all : list_all (is_simple raw) run ≡ true) (whole : text ≡ run ++ left)
    (is : IsUtf8 left) (sizes : length text ≡ length run + length left) where
  pub run-first : items_from (front_by raw) (length text) (chars text) ≡
      plain_items (length run) run ++ items_from (front_by raw) (length text) (chars left)
  run-first =
      run-items raw (length text) text run left all whole is
      ∙ ap (λ (n : ℕ). plain_items n run ++ items_from (front_by raw) (length text) (chars left)) (omega (arith, sizes))

  pub run-only : length left ≡ 0
      → items_from (front_by raw) (length text) (chars text) ≡ plain_items (length run) run ++ []
  run-only none =
      run-first ∙ ap (λ (is : List Item). plain_items (length run) run ++ is) (items-nothing raw (length text) left none)

-- The errors of a string are those of the text after simple characters.
pub errors_of-past : (mode : Mode) (text run left : List ℕ) → is_single mode ≡ false
    → list_all (is_simple (is_raw mode)) run ≡ true → text ≡ run ++ left
    → errors_of mode text ≡ errors_in mode (items_from (front_by (is_raw mode)) (length text) (chars left))
errors_of-past mode text run left double all whole =
    errors_of-items mode text double
    ∙ sym (simple_same mode (is_raw mode) (length text) (chars text) (chars left)
    (passes-run (is_raw mode) text run left all whole))

-- Calls for some items, and then for others.
pub folds-append : {P A : Type 0} (R : P → A → P → Type 0) (p q r : P) (xs ys : List A) → FoldsTo R p xs q
    → FoldsTo R q ys r → FoldsTo R p (xs ++ ys) r
folds-append R p q r [] ys e f = subst (λ (a : _). FoldsTo R a ys r) (sym e) f
folds-append R p q r (x ∷ xs) ys e f = (e.0, e.1, folds-append R e.0 q r xs ys e.2 f)

pub folds-on : {P A : Type 0} (R : P → A → P → Type 0) (p q r : P) (all found rest : List A) → all ≡ found ++ rest
    → FoldsTo R p found q → FoldsTo R q rest r → FoldsTo R p all r
folds-on R p q r all found rest e f g =
    subst (λ (is : List _). FoldsTo R p is r) (sym e) (folds-append R p q r found rest f g)

-- ---- the table

pub level_table : (c none : ℕ) → c < 256 → get_or SIMPLE c none ≡ simple_level c
level_table c none small = get_or-map-range_with_len simple_level 0 256 c c none small (omega arith)

pub level-all : (c : ℕ) → nat_le 2 (simple_level c) ≡ is_simple false c
level-all c = grind (arith, common_steps)

pub level-raw : (c : ℕ) → nat_le 1 (simple_level c) ≡ is_simple true c
level-raw c = grind (arith, common_steps, and_parts)

pub level : (raw : Bool) (c : ℕ) → nat_le (if raw then 1 else 2) (simple_level c) ≡ is_simple raw c
level true c = level-raw c
level false c = level-all c

pub passes-shorter : (raw : Bool) (xs left : List ℕ) → Passes (is_simple raw) xs left → length left ≤ length xs
passes-shorter raw xs left p = omega (arith, ap length p.whole, length-append p.passed left)

pub ruleset simple_lemmas = (passes-none, passes-simple)

pub ruleset level_lemmas = (level, level-all, level-raw)
