-- The number that the scanner reads is the longest number at the front of its text.
use Rattle.std.proofs.Common.{◌≡◌, ℕ, suc, ◌+◌, ◌≤◌, ◌<◌, ◌==◌, ◌&&◌, ◌||◌, ◌⊎◌, inl, inr, not, Bool, true, false}
use Rattle.std.proofs.Common.{true≢false, if◌then◌else◌, List, [], ◌∷◌, ◌++◌, length, take, drop, refl, sym, ap, ◌∙◌}
use Rattle.std.proofs.Common.{subst, arith, codes, append_assoc, length-append, length-drop, take-append-drop}
use Rattle.std.proofs.Common.{length-take}
use Rattle.std.proofs.lemmas.Bool.{agree_below_at, and_parts, eqb-true, or_cases, or_parts}
use Rattle.std.proofs.lemmas.List.{drop-append-le, take-append-le}
use Rattle.std.specs.{Char.{is_ascii_digit, is_ascii_hexdigit}, List.{list_any}, Str.{byte}}
use Rattle.std.proofs.lemmas.Grind.{common_steps}
use Rattle.unicode_ident.proofs.Computing.{unicode_ident}
use Rattle.rustc_lexer.specs.{Base, LiteralKind, Binary, Octal, Decimal, Hexadecimal, Int, Float}
use Rattle.rustc_lexer.specs.laws.Choice.{by_either}
use Rattle.rustc_lexer.specs.Classes.{is_among}
use Rattle.std.proofs.Math.Seq.{take-append_seam, drop-append_seam}
use Rattle.rustc_lexer.specs.laws.Reach.{begins-length, next_is-length, IsDecidedBy, decided_same, next_is-decided}
use Rattle.rustc_lexer.specs.laws.Reach.{run_len-next, run_len-none}
use Rattle.rustc_lexer.specs.laws.NumberGrammar.{number-form}
use Rattle.rustc_lexer.specs.model.Number.{or_underscore, digits, IntegerPart, part_of, prefixed, binary, octal}
use Rattle.rustc_lexer.specs.model.Number.{hexadecimal, decimal, part_past_zero, integer_part, float}
use Rattle.rustc_lexer.specs.model.Number.{is_exponent_letter, is_sign, past_sign, float_exponent, optional_exponent}
use Rattle.rustc_lexer.specs.model.Number.{fraction_digits, fraction, is_no_fraction, begins_fraction, past_digits}
use Rattle.rustc_lexer.specs.model.Number.{tail, number_kind}
use Rattle.rustc_lexer.specs.NumberGrammar.{AreDigits, is_digit_of, IsWholePart, plain, with_b, with_o, with_x}
use Rattle.rustc_lexer.specs.NumberGrammar.{IsExponent, signed, unsigned, IsTailBefore, nothing, dot, of_fraction}
use Rattle.rustc_lexer.specs.NumberGrammar.{of_exponent, of_both, HasNumberForm, of_prefix, of_parts, IsNumberBefore}
use Rattle.rustc_lexer.specs.model.Scan.{and_then, after, begins, gives, next_is, read_as, run, run_as, run_len}
use Rattle.rustc_lexer.specs.laws.LanguageRuns.{begins-next, digit-small, IsSolid, other_than, pair, run_len-here}
use Rattle.rustc_lexer.specs.laws.LanguageRuns.{solid-by}

-- ---- characters

-- A property of two characters is a property of either.
of_two : (P : ℕ → Type 0) (a b c : ℕ) → (c == a || c == b) ≡ true → P a → P b → P c
of_two P a b c e at_a at_b =
    elim (or_cases (c == a) (c == b) e) [
      | inl f ↦ subst P (sym (eqb-true c a f)) at_a
      | inr f ↦
          subst P (sym (eqb-true c b f)) at_b
    ]

sign-no_digit : (g : ℕ) → is_sign g ≡ true → or_underscore is_ascii_digit g ≡ false
sign-no_digit g t = of_two (λ x. or_underscore is_ascii_digit x ≡ false) 43 45 g t refl refl

digit-fraction : (d : ℕ) → is_ascii_digit d ≡ true → is_no_fraction d ≡ false
unfolding unicode_ident
digit-fraction d t = sym (ap (λ b. b && is_no_fraction d) t)
    ∙ agree_below_at (λ b. is_ascii_digit b && is_no_fraction b) (λ b. false) 128 d refl (digit-small d t)

pub fraction-solid : IsSolid is_no_fraction
unfolding unicode_ident
fraction-solid = solid-by is_no_fraction refl

abbrev not_octal : List ℕ → IntegerPart × ℕ
not_octal s = if begins (codes "x") s then after 1 hexadecimal s else decimal s

abbrev not_binary : List ℕ → IntegerPart × ℕ
not_binary s = if begins (codes "o") s then after 1 octal s else not_octal s

abbrev no_fraction : Base → List ℕ → LiteralKind × ℕ
no_fraction base s = if next_is is_exponent_letter s then after 1 (float_exponent base) s else gives (Int base false) s

digits-some : (base : Base) (s : List ℕ) → next_is is_ascii_digit s ≡ true → 0 < (fraction_digits base s).1
digits-some base [] t = absurd (true≢false (sym t))
digits-some base (d ∷ s) t = grind (arith, common_steps)

-- An exponent starts with its letter.
exponent-next : {base : Base} {kind : LiteralKind} {t : List ℕ} → IsExponent base kind t → (left : List ℕ)
    → next_is is_exponent_letter (t ++ left) ≡ true
exponent-next w0 left = grind (arith, common_steps)

exponent-no_digit : {base : Base} {kind : LiteralKind} {t : List ℕ} → IsExponent base kind t → (left : List ℕ)
    → next_is (or_underscore is_ascii_digit) (t ++ left) ≡ false
exponent-no_digit w0 left = grind (arith, common_steps, of_two)

-- ---- the text after a number

-- Two texts that can follow a number. `D` means that the number would continue only before `other`.
module _ (next other : List ℕ) (D : Type 0) (differ : (p : ℕ → Bool) → IsSolid p → next_is p next ≡ false
    → next_is p other ≡ true → D)
    (same : next_is is_no_fraction other ≡ next_is is_no_fraction next) where
  -- Holds if `scan` reads the same before both texts, or reads more before `other` and `D` holds, whenever it ends
  -- within w before `next`.
  abbrev Grows : {A : Type 0} → (List ℕ → A × ℕ) → List ℕ → Type 0
  Grows scan w = (scan (w ++ next)).1 ≤ length w → (D × (length w < (scan (w ++ other)).1))
      ⊎ (scan (w ++ other) ≡ scan (w ++ next))

  run_len-grows : (p : ℕ → Bool) → IsSolid p → (w : List ℕ) → run_len p (w ++ next) ≤ length w
      → (D × (length w < run_len p (w ++ other))) ⊎ (run_len p (w ++ other) ≡ run_len p (w ++ next))
  run_len-grows p solid [] le = by_either (next_is p next) (λ t. absurd (omega (arith, run_len-next p next t)))
      (λ f. by_either (next_is p other) (λ t. inl (differ p solid f t, run_len-next p other t))
      (λ g. inr (run_len-none p other g ∙ sym (run_len-none p next f))))
  run_len-grows p solid (c ∷ w) le = grind (arith, common_steps, run_len-grows p solid w)

  run-grows : {A : Type 0} (f : List ℕ → A) (p : ℕ → Bool) → IsSolid p → (w : List ℕ)
      → Grows (run_as (λ front rest. f front) p) w
  run-grows f p solid w le = grind (arith, common_steps, run_len-grows p solid w, take-append-le)

  -- `Grows` holds for a choice by a test, at the end of w and before it.
  choice-here : {A : Type 0} (test : List ℕ → Bool) (scan otherwise : List ℕ → A × ℕ)
      → (test next ≡ false → test other ≡ true → D)
      → ((s : List ℕ) → test s ≡ true → 0 < (scan s).1) → Grows otherwise []
      → Grows (λ s. if test s then scan s else otherwise s) []
  choice-here test scan otherwise differs some two le = grind (arith, common_steps, differs, some next, some other)

  choice-past : {A : Type 0} (test : List ℕ → Bool) (scan otherwise : List ℕ → A × ℕ) (w : List ℕ)
      → test (w ++ other) ≡ test (w ++ next) → Grows scan w
      → Grows otherwise w → Grows (λ s. if test s then scan s else otherwise s) w
  choice-past test scan otherwise w alike one two le = grind (arith, common_steps, alike)

  after-grows : {A : Type 0} (scan : List ℕ → A × ℕ) → ((w : List ℕ) → Grows scan w) → (w : List ℕ)
      → Grows (after 1 scan) w
  after-grows scan grows [] le = absurd (omega arith)
  after-grows scan grows (c ∷ w) le = grind (arith, common_steps, grows w)

  class-grows : {A : Type 0} (p : ℕ → Bool) → IsSolid p → (test : List ℕ → Bool) → ((s : List ℕ) → test s ≡ next_is p s)
      → (scan otherwise : List ℕ → A × ℕ) → ((s : List ℕ) → test s ≡ true → 0 < (scan s).1)
      → ((w : List ℕ) → Grows scan w) → ((w : List ℕ) → Grows otherwise w) → (w : List ℕ)
      → Grows (λ s. if test s then scan s else otherwise s) w
  class-grows p solid test is scan otherwise some one two [] =
      choice-here test scan otherwise (λ f t. differ p solid (sym (is next) ∙ f) (sym (is other) ∙ t)) some (two [])
  class-grows p solid test is scan otherwise some one two (c ∷ w) =
      choice-past test scan otherwise (c ∷ w) (is (c ∷ w ++ other) ∙ sym (is (c ∷ w ++ next))) (one (c ∷ w))
      (two (c ∷ w))

  -- `Grows` holds after a character of a class.
  past-grows : {A : Type 0} (p : ℕ → Bool) → IsSolid p → (test : List ℕ → Bool) → ((s : List ℕ) → test s ≡ next_is p s)
      → (scan otherwise : List ℕ → A × ℕ)
      → ((w : List ℕ) → Grows scan w) → ((w : List ℕ) → Grows otherwise w) → (w : List ℕ)
      → Grows (λ s. if test s then after 1 scan s else otherwise s) w
  past-grows p solid test is scan otherwise one two =
      class-grows p solid test is (after 1 scan) otherwise (λ s t. omega arith) (after-grows scan one) two

  then-grows : {A B : Type 0} (scan : List ℕ → A × ℕ) (go_on : A → List ℕ → B × ℕ) (w : List ℕ) → Grows scan w
      → Grows (go_on (scan (w ++ next)).0) (drop (scan (w ++ next)).1 w) → Grows (and_then scan go_on) w
  then-grows scan go_on w one two le =
      let n : ℕ = (scan (w ++ next)).1 in
      let within : n ≤ length w = omega arith in
      grind (
        arith,
        common_steps,
        one within,
        drop-append-le n w next within,
        drop-append-le n w other within,
        length-drop n w,
        two,
      )

  exponent-grows : (base : Base) (w : List ℕ) → Grows (float_exponent base) w
  exponent-grows base = past-grows is_sign (solid-by is_sign refl) (next_is is_sign) (λ s. refl) (past_sign base)
      (past_sign base) digits-grow digits-grow
    where
      digits-grow : (w : List ℕ) → Grows (past_sign base) w
      digits-grow = run-grows (λ ds. float base (list_any is_ascii_digit ds)) (or_underscore is_ascii_digit)
          (solid-by (or_underscore is_ascii_digit) refl)

  -- `Grows` holds for an exponent, or else for this kind.
  optional-grows : (base : Base) (kind : LiteralKind) (w : List ℕ)
      → Grows (λ s. if next_is is_exponent_letter s then after 1 (float_exponent base) s else gives kind s) w
  optional-grows base kind =
      past-grows is_exponent_letter (solid-by is_exponent_letter refl) (next_is is_exponent_letter) (λ s. refl)
      (float_exponent base) (gives kind) (exponent-grows base) (λ w le. inr refl)

  fraction-grows : (base : Base) (w : List ℕ) → Grows (fraction base) w
  unfolding fraction
  fraction-grows base =
      class-grows is_ascii_digit (solid-by is_ascii_digit refl) (next_is is_ascii_digit) (λ s. refl)
      (fraction_digits base) (gives (Float base false))
      (digits-some base)
      (λ w. then-grows (run base (or_underscore is_ascii_digit)) optional_exponent w
      (run-grows (λ ds. base) (or_underscore is_ascii_digit) (solid-by (or_underscore is_ascii_digit) refl) w)
      (optional-grows base (Float base false) _)) (λ w le. inr refl)

  decimal-grows : (w : List ℕ) → Grows decimal w
  decimal-grows = run-grows (λ ds. part_of Decimal false) (or_underscore is_ascii_digit)
      (solid-by (or_underscore is_ascii_digit) refl)

  based-grows : (base : Base) (is_digit : ℕ → Bool) → IsSolid (or_underscore is_digit) → (w : List ℕ)
      → Grows (read_as (prefixed base) (digits is_digit)) w
  based-grows base is_digit = run-grows (λ ds. prefixed base (list_any is_digit ds)) (or_underscore is_digit)

  integer_part-grows : (first : ℕ) (w : List ℕ) → Grows (integer_part first) w
  integer_part-grows first w = choice-past (λ s. first == byte "0") part_past_zero decimal w refl
      (past-grows (is_among (98 ∷ [])) (solid-by (is_among (98 ∷ [])) refl) (begins (98 ∷ []))
      (begins-next 98) binary not_binary
      (based-grows Binary is_ascii_digit (solid-by (or_underscore is_ascii_digit) refl))
      (past-grows (is_among (111 ∷ [])) (solid-by (is_among (111 ∷ [])) refl) (begins (111 ∷ []))
      (begins-next 111) octal not_octal
      (based-grows Octal is_ascii_digit (solid-by (or_underscore is_ascii_digit) refl))
      (past-grows (is_among (120 ∷ [])) (solid-by (is_among (120 ∷ [])) refl) (begins (120 ∷ []))
      (begins-next 120) hexadecimal decimal
      (based-grows Hexadecimal is_ascii_hexdigit (solid-by (or_underscore is_ascii_hexdigit) refl)) decimal-grows)) w)
      (decimal-grows w)

  -- A dot matters only directly after the whole part, if the number ends there.
  module _ (kind : LiteralKind) (dotted : (base : Base) → kind ≡ Int base false → begins_fraction next ≡ false
      → begins_fraction other ≡ true → D) where
    past_digits-grows : (base : Base) (w : List ℕ) → (past_digits base (w ++ next)).0 ≡ kind
        → Grows (past_digits base) w
    past_digits-grows base [] e le =
        by_either (begins_fraction next)
        (λ t. absurd (let more : (past_digits base next).1 ≡ 1 + (fraction base (drop 1 next)).1 = rw t refl in
        omega arith))
        (λ t. by_either (next_is is_exponent_letter next)
        (λ f. absurd (let more : (past_digits base next).1 ≡ 1 + (float_exponent base (drop 1 next)).1 = rw
        (t, f) refl in omega arith))
        (λ f. choice-here begins_fraction (after 1 (fraction base)) (no_fraction base)
        (dotted base (sym e ∙ rw (t, f) refl)) (λ s u. omega arith)
        (optional-grows base (Int base false) []) le))
    past_digits-grows base (c ∷ w) e le =
        choice-past begins_fraction (after 1 (fraction base)) (no_fraction base) (c ∷ w) (behind_dot w)
        (after-grows (fraction base) (fraction-grows base) (c ∷ w)) (optional-grows base (Int base false) (c ∷ w)) le
      where
        behind_dot : (w : List ℕ) → begins_fraction (c ∷ w ++ other) ≡ begins_fraction (c ∷ w ++ next)
        behind_dot [] = ap (λ (b : Bool). (c == 46 && true) && not b) same
        behind_dot (d ∷ w) = refl

    tail-grows : (base : Base) (empty : Bool) (w : List ℕ) → (tail (part_of base empty) (w ++ next)).0 ≡ kind
        → Grows (tail (part_of base empty)) w
    tail-grows base true w e le = inr refl
    tail-grows base false w e le = past_digits-grows base w e le

    number-grows : (first : ℕ) (w : List ℕ) → number_kind first (w ++ next) ≡ (kind, length w)
        → (D × (length w < (number_kind first (w ++ other)).1)) ⊎ (number_kind first (w ++ other) ≡ (kind, length w))
    unfolding number_kind
    number-grows first w e =
        let size : (and_then (integer_part first) tail (w ++ next)).1 ≡ length w =
        ap (λ (r : LiteralKind × ℕ). r.1) e in
        let part : IntegerPart = (integer_part first (w ++ next)).0 in
        let n : ℕ = (integer_part first (w ++ next)).1 in
        let left : drop n (w ++ next) ≡ drop n w ++ next = drop-append-le n w next (omega arith) in
        let on = tail-grows part.base part.empty_int (drop n w) (ap (λ (s : List ℕ). (tail part s).0) (sym left)
        ∙ ap (λ (r : LiteralKind × ℕ). r.0) e) in
        elim (then-grows (integer_part first) tail w (integer_part-grows first w) on (omega arith))
        [ inl h ↦ inl h | inr f ↦ inr (f ∙ e) ]

-- ---- the scanner reads every text that has the form of a number

-- Whether the letter belongs to a prefix.
abbrev is_prefix_letter : ℕ → Bool
is_prefix_letter c = c == byte "b" || (c == byte "o" || c == byte "x")

-- Whether the whole part of a number can continue with this character.
abbrev goes_on : Base → ℕ → Bool
goes_on base c = is_prefix_letter c || or_underscore (is_digit_of base) c

-- Returns the integer part of a number with its first digit.
abbrev integer_part_all : List ℕ → IntegerPart × ℕ
integer_part_all [] = (part_of Decimal false, 0)
integer_part_all (c ∷ s) = ((integer_part c s).0, suc (integer_part c s).1)

no_digit : (base : Base) (s : List ℕ) → next_is (goes_on base) s ≡ false
    → next_is (or_underscore (is_digit_of base)) s ≡ false
no_digit base [] stop = refl
no_digit base (c ∷ s) stop = (or_parts (is_prefix_letter c) _ stop).1

dot-stops : (base : Base) → goes_on base 46 ≡ false
dot-stops w0 = grind (arith, common_steps)

letter-stops : (base : Base) (e : ℕ) → is_digit_of base e ≡ false → is_exponent_letter e ≡ true → goes_on base e ≡ false
letter-stops base e no_digit letter = grind (arith, common_steps, of_two, other_than)

-- Digits and the text after them do not start with this letter, if the text alone does not.
digits-letter : (letter : ℕ) (ds s : List ℕ) → or_underscore is_ascii_digit letter ≡ false → AreDigits is_ascii_digit ds
    → begins (letter ∷ []) s ≡ false
    → begins (letter ∷ []) (ds ++ s) ≡ false
digits-letter letter [] s out are none = none
digits-letter letter (d ∷ ds) s out are none =
    grind (arith, common_steps, other_than (or_underscore is_ascii_digit) letter d out, and_parts)

-- The whole part is read, if the text after it does not continue it.
whole-read : {base : Base} {empty : Bool} {w : List ℕ} → IsWholePart base empty w → (s : List ℕ)
    → next_is (goes_on base) s ≡ false
    → integer_part_all (w ++ s) ≡ (part_of base empty, length w)
whole-read (plain {d} {ds} digit are) s stop =
    let none : (letter : ℕ) → is_prefix_letter letter ≡ true → begins (letter ∷ []) s ≡ false =
    λ letter is. no_letter letter s is stop in
    grind (
      arith,
      common_steps,
      digits-letter 98 ds s refl are (none 98 refl),
      digits-letter 111 ds s refl are (none 111 refl),
      digits-letter 120 ds s refl are (none 120 refl),
      run_len-here (or_underscore is_ascii_digit) ds s are (no_digit Decimal s stop),
    )
  where
    no_letter : (letter : ℕ) (s : List ℕ) → is_prefix_letter letter ≡ true → next_is (goes_on Decimal) s ≡ false
        → begins (letter ∷ []) s ≡ false
    no_letter letter [] is stop = refl
    no_letter letter (c ∷ s) is stop = grind (arith, common_steps, or_parts, eqb-true)
whole-read (with_b {ds} are) s stop =
    grind (
      arith,
      common_steps,
      run_len-here (or_underscore is_ascii_digit) ds s are (no_digit Binary s stop),
      take-append_seam,
    )
whole-read (with_o {ds} are) s stop =
    grind (
      arith,
      common_steps,
      run_len-here (or_underscore is_ascii_digit) ds s are (no_digit Octal s stop),
      take-append_seam,
    )
whole-read (with_x {ds} are) s stop =
    grind (
      arith,
      common_steps,
      run_len-here (or_underscore is_ascii_hexdigit) ds s are (no_digit Hexadecimal s stop),
      take-append_seam,
    )

-- Returns a number with its first digit, up to its suffix.
abbrev number_all : List ℕ → LiteralKind × ℕ
number_all s = and_then integer_part_all tail s

number_all-is : (first : ℕ) (s : List ℕ)
    → number_all (first ∷ s) ≡ ((number_kind first s).0, 1 + (number_kind first s).1)
unfolding number_kind
number_all-is first s = grind (arith, common_steps)

-- Before a text that stops everything except a dot.
module _ (stop : List ℕ) (stops : (p : ℕ → Bool) → p 46 ≡ false → next_is p stop ≡ false)
    (no_dot : begins_fraction stop ≡ false) where
  digits-read : (ds : List ℕ) → AreDigits is_ascii_digit ds → run_len (or_underscore is_ascii_digit) (ds ++ stop) ≡
      length ds
  digits-read ds are =
      run_len-here (or_underscore is_ascii_digit) ds stop are (stops (or_underscore is_ascii_digit) refl)

  no-sign : (ds : List ℕ) → AreDigits is_ascii_digit ds → next_is is_sign (ds ++ stop) ≡ false
  no-sign [] are = stops is_sign refl
  no-sign (d ∷ ds) are = grind (arith, common_steps, sign-no_digit, and_parts)

  exponent-read : {base : Base} {kind : LiteralKind} {t : List ℕ} → IsExponent base kind t
      → after 1 (float_exponent base) (t ++ stop) ≡ (kind, length t)
  exponent-read (signed {ds = ds} letter sign are) = grind (arith, common_steps, digits-read ds are, take-append_seam)
  exponent-read (unsigned {ds = ds} letter are) =
      grind (arith, common_steps, no-sign ds are, digits-read ds are, take-append_seam)

  tail-read : {next : List ℕ} {base : Base} {kind : LiteralKind} {t : List ℕ} → next_is is_no_fraction stop ≡
      next_is is_no_fraction next
      → IsTailBefore next base kind t → past_digits base (t ++ stop) ≡ (kind, length t)
  unfolding fraction
  tail-read alike nothing = rw (no_dot, stops is_exponent_letter refl) refl
  tail-read alike (dot free) = grind (arith, common_steps, stops is_ascii_digit refl)
  tail-read alike (of_fraction {d = d} {ds = ds} digit are) =
      let all : AreDigits is_ascii_digit (d ∷ ds) = rw digit are in
      grind (
        arith,
        common_steps,
        digit-fraction d digit,
        digits-read (d ∷ ds) all,
        drop-append_seam (d ∷ ds) stop,
        stops is_exponent_letter refl,
      )
  tail-read alike (of_exponent {e = e} no_digit is) =
      grind (arith, common_steps, exponent-next is [], other_than is_exponent_letter 46 e refl, exponent-read is)
  tail-read alike (of_both {d = d} {e = e} ds digit are is) =
      let all : AreDigits is_ascii_digit (d ∷ ds) = rw digit are in
      let run = run_len-here (or_underscore is_ascii_digit) (d ∷ ds) (e ++ stop) all (exponent-no_digit is stop) in
      grind (
        arith,
        common_steps,
        digit-fraction d digit,
        append_assoc ds e stop,
        run,
        drop-append_seam (d ∷ ds) (e ++ stop),
        exponent-next is stop,
        exponent-read is,
        length-append ds e,
      )

  tail-stops : {next : List ℕ} {base : Base} {kind : LiteralKind} {t : List ℕ} → IsTailBefore next base kind t
      → next_is (goes_on base) (t ++ stop) ≡ false
  tail-stops {base = base} nothing = stops (goes_on base) (dot-stops base)
  tail-stops {base = base} (dot free) = dot-stops base
  tail-stops {base = base} (of_fraction digit are) = dot-stops base
  tail-stops {base = base} (of_exponent {e = e} no_digit is) = letter-stops base e no_digit (exponent-next is [])
  tail-stops {base = base} (of_both ds digit are is) = dot-stops base

  form-read : {next : List ℕ} {kind : LiteralKind} {w : List ℕ} → next_is is_no_fraction stop ≡
      next_is is_no_fraction next → HasNumberForm next kind w
      → number_all (w ++ stop) ≡ (kind, length w)
  form-read alike (of_prefix {base = base} {whole = w} whole) =
      grind (arith, common_steps, whole-read whole stop (stops (goes_on base) (dot-stops base)))
  form-read alike (of_parts {base = base} {whole = w} {tail = t} whole is) =
      grind (
        arith,
        common_steps,
        append_assoc w t stop,
        whole-read whole (t ++ stop) (tail-stops is),
        drop-append_seam w (t ++ stop),
        tail-read alike is,
        length-append w t,
      )

-- Holds if the scanner reads more than v, and the text after v is not empty.
abbrev Longer : List ℕ → LiteralKind → ℕ → List ℕ → Type 0
Longer next kind first v = ((1 ≤ length next) × (length v < (number_kind first (v ++ next)).1))
    ⊎ (number_kind first (v ++ next) ≡ (kind, length v))

form-grows : {next : List ℕ} {kind : LiteralKind} (first : ℕ) (v : List ℕ) → HasNumberForm next kind (first ∷ v)
    → Longer next kind first v
form-grows {next} {kind} first v form =
    by_either (next_is is_no_fraction next) (λ t. before (46 ∷ 46 ∷ []) (λ p out. out) refl (sym t))
    (λ f. before [] (λ p out. refl) refl (sym f))
  where
    before : (stop : List ℕ) → ((p : ℕ → Bool) → p 46 ≡ false → next_is p stop ≡ false) → begins_fraction stop ≡ false
        → next_is is_no_fraction stop ≡ next_is is_no_fraction next → Longer next kind first v
    before stop stops no_dot alike =
        let all : ◌≡◌ {A = LiteralKind × ℕ} ((number_kind first (v ++ stop)).0, 1 + (number_kind first (v ++ stop)).1)
        (kind, suc (length v)) =
        sym (number_all-is first (v ++ stop)) ∙ form-read stop stops no_dot alike form in
        let read : number_kind first (v ++ stop) ≡ (kind, length v) =
        pair _ _ _ _ (ap (λ (r : LiteralKind × ℕ). r.0) all) (omega (arith, ap (λ (r : LiteralKind × ℕ). r.1) all)) in
        number-grows stop next (1 ≤ length next) (λ p solid f t. next_is-length p next t) (sym alike) kind
        (λ base int f t. begins-length (codes ".") next (and_parts (begins (codes ".") next) _ t).0) first v read

-- A prefix of a text that has the form of a number is at most as long as the number that is read.
form-le : (first : ℕ) (s v rest : List ℕ) {kind : LiteralKind} → v ++ rest ≡ first ∷ s → HasNumberForm rest kind v
    → length v ≤ 1 + (number_kind first s).1
form-le first s [] rest text form = omega arith
form-le first s (c ∷ v) rest text form = grind (arith, common_steps, form-grows c v form)

-- The scanner reads a number.
pub number-read : (first : ℕ) (s : List ℕ) → is_ascii_digit first ≡ true
    → IsNumberBefore (drop (number_kind first s).1 s) (number_kind first s).0 (first ∷ take (number_kind first s).1 s)
number-read first s digit = record {
  form = number-form first s digit;
  longest = λ kind v rest text form. let whole =
      text ∙ ap (λ (xs : List ℕ). first ∷ xs) (take-append-drop (number_kind first s).1 s) in
      omega (
        arith,
        form-le first s v rest whole form,
        length-take (number_kind first s).1 s,
        ap length whole,
        length-append v rest,
      );
}

-- Conversely, every number is the number that the scanner reads.
pub number-is : {next : List ℕ} {kind : LiteralKind} (first : ℕ) (v : List ℕ) → is_ascii_digit first ≡ true
    → IsNumberBefore next kind (first ∷ v) → number_kind first (v ++ next) ≡ (kind, length v)
number-is {next} {kind} first v digit is = elim (form-grows first v is.form) [
  | inl h ↦ absurd (omega (
    arith,
    h.0,
    h.1,
    length-take m s,
    length-append v next,
    is.longest _ (first ∷ take m s) (drop m s)
        (ap (λ (xs : List ℕ). first ∷ xs) (take-append-drop m s)) (number-form first s digit),
  ))
  | inr e ↦ e
]
  where
    s : List ℕ
    s = v ++ next

    m : ℕ
    m = (number_kind first s).1

-- ---- texts that can follow a number

-- A number is still a number before a text that starts with the same classes of characters.
pub number-before : {next : List ℕ} {kind : LiteralKind} (first : ℕ) (v : List ℕ) → is_ascii_digit first ≡ true
    → IsNumberBefore next kind (first ∷ v)
    → (other : List ℕ) → ((p : ℕ → Bool) → IsSolid p → next_is p other ≡ next_is p next)
    → ((base : Base) → kind ≡ Int base false → begins_fraction other ≡ begins_fraction next)
    → IsNumberBefore other kind (first ∷ v)
number-before {next} {kind} first v digit is other same dotted =
    let stays : number_kind first (v ++ other) ≡ (kind, length v) =
    elim (number-grows next other ⊥ (λ p solid f t. true≢false (sym t ∙ (same p solid ∙ f)))
    (same is_no_fraction fraction-solid) kind
    (λ base int f t. true≢false (sym t ∙ (dotted base int ∙ f))) first v (number-is first v digit is))
    [ inl h ↦ absurd h.0 | inr e ↦ e ] in
    let there = subst
    (λ (r : LiteralKind × ℕ). IsNumberBefore (drop r.1 (v ++ other)) r.0 (first ∷ take r.1 (v ++ other))) stays
    (number-read first (v ++ other) digit) in
    rw (take-append_seam v other, drop-append_seam v other) at there

-- Returns how far a number looks ahead.
abbrev pub number_reach : LiteralKind → ℕ
number_reach (Float base empty_exponent) = 1
number_reach kind = 2

pub number-looks : (kind : LiteralKind) → 0 < number_reach kind
number-looks kind = grind (arith, common_steps)

begins_fraction-decided : IsDecidedBy 2 begins_fraction
begins_fraction-decided [] = refl
begins_fraction-decided (c ∷ []) = refl
begins_fraction-decided (c ∷ d ∷ s) = refl

-- A number is still a number before a text that starts with the same characters.
pub number-alike : {next : List ℕ} {kind : LiteralKind} (first : ℕ) (v : List ℕ) → is_ascii_digit first ≡ true
    → IsNumberBefore next kind (first ∷ v) → (other : List ℕ)
    → take (number_reach kind) other ≡ take (number_reach kind) next → IsNumberBefore other kind (first ∷ v)
number-alike {next} {kind} first v digit is other alike =
    number-before first v digit is other
    (λ p solid. decided_same 1 (number_reach kind) (next_is p) other next (next_is-decided p)
    (number-looks kind) alike)
    (λ base e. decided_same 2 (number_reach kind) begins_fraction other next begins_fraction-decided
    (subst (λ (k : LiteralKind). 2 ≤ number_reach k) (sym e) (omega arith)) alike)
