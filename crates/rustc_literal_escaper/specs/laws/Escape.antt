-- The model reads exactly the escapes and the elements of the grammar.
use Rattle.std.proofs.Common.{◌≡◌, ℕ, ◌==◌, ◌||◌, Bool, true, false, true≢false, List, [], ◌∷◌, ◌++◌, length, filter}
use Rattle.std.proofs.Common.{nat_le, if◌then◌else◌, refl, sym, ap, subst, ◌∙◌, arith, append_assoc}
use Rattle.std.specs.List.{list_all}
use Rattle.std.proofs.lemmas.Bool.{and_parts, cond-false, cond-true, cond_both, eqb-true, le-leb, leb-false, leb-true}
use Rattle.std.proofs.lemmas.Bool.{lt-leb, or_parts}
use Rattle.std.proofs.{Math.Bool.{or-true}, lemmas.{Bool.Decides.{nat_tests}, Grind.{common_steps}}}
use Rattle.rustc_literal_escaper.specs.declared.element.Element.{Element}
use Rattle.rustc_literal_escaper.specs.declared.element.Element.TheVariants.{Plain, Unicode, Diagnostic}
use Rattle.rustc_literal_escaper.specs.declared.error.EscapeError.TheVariants.{LoneSlash, TooShortHexEscape}
use Rattle.rustc_literal_escaper.specs.declared.error.EscapeError.TheVariants.{InvalidCharInHexEscape}
use Rattle.rustc_literal_escaper.specs.declared.error.EscapeError.TheVariants.{NoBraceInUnicodeEscape}
use Rattle.rustc_literal_escaper.specs.declared.error.EscapeError.TheVariants.{InvalidCharInUnicodeEscape}
use Rattle.rustc_literal_escaper.specs.declared.error.EscapeError.TheVariants.{EmptyUnicodeEscape}
use Rattle.rustc_literal_escaper.specs.declared.error.EscapeError.TheVariants.{UnclosedUnicodeEscape}
use Rattle.rustc_literal_escaper.specs.declared.error.EscapeError.TheVariants.{LeadingUnderscoreUnicodeEscape}
use Rattle.rustc_literal_escaper.specs.declared.error.EscapeError.TheVariants.{OverlongUnicodeEscape}
use Rattle.rustc_literal_escaper.specs.declared.error.EscapeError.TheVariants.{BareCarriageReturn, EscapeOnlyChar}
use Rattle.rustc_literal_escaper.specs.Grammar as g
use Rattle.rustc_literal_escaper.specs.Grammar.{AreDigits, IsElementBefore, IsEscapeBefore, hex_value, is_among}
use Rattle.rustc_literal_escaper.specs.Grammar.{is_digit_or_underscore, is_hex, next_is}
use Rattle.rustc_literal_escaper.specs.model.Escape.{braced, closed, closed_at_run, escape, front_run, hex, number}
use Rattle.rustc_literal_escaper.specs.model.Escape.{past_run, short, unicode}

-- ---- runs of characters

-- Characters of a class, before the end or a character outside of it, are the longest prefix in the class.
pub run-is : (p : ℕ → Bool) (w s : List ℕ) → list_all p w ≡ true → next_is p s ≡ false → (front_run p (w ++ s) ≡ w)
    × (past_run p (w ++ s) ≡ s)
run-is p [] [] all stops = (refl, refl)
run-is p [] (c ∷ s) all stops = (rw stops refl, rw stops refl)
run-is p (c ∷ w) s all stops = grind (arith, common_steps, and_parts, run-is p w s)

pub run-cut : (p : ℕ → Bool) (s : List ℕ) → s ≡ front_run p s ++ past_run p s
run-cut p [] = refl
run-cut p (c ∷ s) = grind (arith, common_steps, run-cut p s)

pub run-all : (p : ℕ → Bool) (s : List ℕ) → list_all p (front_run p s) ≡ true
run-all p [] = refl
run-all p (c ∷ s) = cond_both (p c) (c ∷ front_run p s) [] (λ (xs : List ℕ). list_all p xs ≡ true)
    (λ e. rw e (run-all p s)) (λ e. refl)

pub run-stops : (p : ℕ → Bool) (s : List ℕ) → next_is p (past_run p s) ≡ false
run-stops p [] = refl
run-stops p (c ∷ s) = cond_both (p c) (past_run p s) (c ∷ s) (λ (xs : List ℕ). next_is p xs ≡ false)
    (λ e. run-stops p s) (λ e. e)

-- ---- the model reads the escapes of the grammar

pub by_either : {A : Type 0} (b : Bool) → (b ≡ true → A) → (b ≡ false → A) → A
by_either true t f = t refl
by_either false t f = f refl

-- A digit differs from every character that is not a digit.
pub no-digit : (k c : ℕ) → is_hex k ≡ false → is_hex c ≡ true → (c == k) ≡ false
no-digit k c none is = by_either (c == k) (λ e. absurd (true≢false (sym is ∙ (ap is_hex (eqb-true c k e) ∙ none))))
    (λ e. e)

pub digit-runs : (c : ℕ) → is_hex c ≡ true → is_digit_or_underscore c ≡ true
digit-runs c digit = ap (λ b. (c == 95) || b) digit ∙ or-true (c == 95)

-- Digits before the end or a character that is not a digit.
digits-read : (d : ℕ) (w s : List ℕ) → is_hex d ≡ true → list_all is_digit_or_underscore w ≡ true
    → next_is is_digit_or_underscore s ≡ false → braced (d ∷ w ++ s) ≡ closed (d ∷ w) s
digits-read d w s digit all stops =
    grind (arith, common_steps, nat_tests, run-is, digit-runs, cond-false, no-digit, cond-true)

closed-read : (d x : ℕ) (w next : List ℕ) (r : Element × List ℕ) → is_hex d ≡ true → list_all is_digit_or_underscore w ≡
    true → is_digit_or_underscore x ≡ false
    → closed (d ∷ w) (x ∷ next) ≡ r → braced (d ∷ (w ++ x ∷ []) ++ next) ≡ r
closed-read d x w next r digit all stops e = ap (λ (v : List ℕ). braced (d ∷ v)) (append_assoc w (x ∷ []) next)
    ∙ (digits-read d w (x ∷ next) digit all stops ∙ e)

bad_first-read : (h : ℕ) (next : List ℕ) → is_hex h ≡ false → hex (h ∷ next) ≡ (Diagnostic InvalidCharInHexEscape, next)
bad_first-read h next bad = grind (arith, common_steps)

pub escape-reads : {next : List ℕ} {e : Element} {w : List ℕ} → IsEscapeBefore next e w → escape (w ++ next) ≡ (e, next)
escape-reads (g.of_byte a b) = rw a (rw b refl)
escape-reads {next} (g.of_number {d} {w} (g.some digit all) few) =
    closed-read d 125 w next _ digit all refl (rw (le-leb _ 6 few) refl)
escape-reads (g.lone none) = subst (λ (n : List ℕ). escape n ≡ (Diagnostic LoneSlash, n)) (sym none) refl
escape-reads (g.invalid {c} other) = grind (arith, common_steps, or_parts)
escape-reads (g.no_digits none) =
    subst (λ (n : List ℕ). escape (120 ∷ n) ≡ (Diagnostic TooShortHexEscape, n)) (sym none) refl
escape-reads (g.one_digit {h} none a) = subst (λ (n : List ℕ). escape (120 ∷ h ∷ n) ≡ (Diagnostic TooShortHexEscape, n))
    (sym none) (rw a refl)
escape-reads {next} (g.bad_first {h} a) = bad_first-read h next a
escape-reads (g.bad_second a b) = rw a (rw b refl)
escape-reads (g.no_more none) = subst (λ (n : List ℕ). escape (117 ∷ n) ≡ (Diagnostic NoBraceInUnicodeEscape, n))
    (sym none) refl
escape-reads (g.no_brace a) = rw a refl
escape-reads (g.unclosed none g.none) =
    subst (λ (n : List ℕ). escape (117 ∷ 123 ∷ n) ≡ (Diagnostic UnclosedUnicodeEscape, n)) (sym none) refl
escape-reads (g.unclosed none (g.some {d} {w} digit all)) =
    subst (λ (n : List ℕ). braced (d ∷ w ++ n) ≡ (Diagnostic UnclosedUnicodeEscape, n)) (sym none)
    (digits-read d w [] digit all refl)
escape-reads (g.bad_digit c g.none other inner) = let parts = or_parts (c == 95) (is_hex c) other in
    rw (parts.0) (rw inner (rw (parts.1) refl))
escape-reads {next} (g.bad_digit c (g.some {d} {w} digit all) other inner) =
    closed-read d c w next _ digit all other (rw inner refl)
escape-reads (g.too_many g.none many) = absurd (omega arith)
escape-reads {next} (g.too_many (g.some {d} {w} digit all) many) =
    closed-read d 125 w next _ digit all refl (rw (lt-leb _ 6 many) refl)
escape-reads is = refl

-- ---- the grammar has the escapes that the model reads

-- Holds if the element that was read is an escape of the grammar, at the start of the text.
abbrev pub IsFront : List ℕ → Element × List ℕ → Type 0
IsFront s read = (w : List ℕ) × (s ≡ w ++ read.1) × IsEscapeBefore read.1 read.0 w

pub at-char : (P : ℕ → Type 0) (c k : ℕ) → P k → (c == k) ≡ true → P c
at-char P c k is e = subst P (sym (eqb-true c k e)) is

pub by_char : (P : ℕ → Type 0) (c k : ℕ) → P k → ((c == k) ≡ false → P c) → P c
by_char P c k is other = by_either (c == k) (at-char P c k is) other

short-is : (c : ℕ) (s : List ℕ) → (c == 120) ≡ false → (c == 117) ≡ false → IsFront (c ∷ s) (short c, s)
short-is c s x u =
    by_char P c 48 (48 ∷ [], refl, g.nul) (λ e0.
    by_char P c 116 (116 ∷ [], refl, g.tab) (λ e1.
    by_char P c 110 (110 ∷ [], refl, g.newline) (λ e2.
    by_char P c 114 (114 ∷ [], refl, g.carriage_return) (λ e3.
    by_char P c 34 (34 ∷ [], refl, g.double_quote) (λ e4.
    by_char P c 39 (39 ∷ [], refl, g.single_quote) (λ e5.
    by_char P c 92 (92 ∷ [], refl, g.backslash) (λ e6.
    rw (e0, e1, e2, e3, e4, e5, e6)
    (c ∷ [], refl, g.invalid {c = c} (rw (e0, e1, e2, e3, e4, e5, e6, x, u) refl)))))))))
  where
    P : ℕ → Type 0
    P n = IsFront (n ∷ s) (short n, s)

hex-is : (s : List ℕ) → IsFront (120 ∷ s) (hex s)
hex-is [] = (120 ∷ [], refl, g.no_digits refl)
hex-is (h ∷ []) = cond_both (is_hex h) (Diagnostic TooShortHexEscape) _
    (λ (e : Element). IsFront (120 ∷ h ∷ []) (e, []))
    (λ a. (120 ∷ h ∷ [], refl, g.one_digit refl a)) (λ a. (120 ∷ h ∷ [], refl, g.bad_first a))
hex-is (h ∷ l ∷ s) = cond_both (is_hex h) _ (Diagnostic InvalidCharInHexEscape, l ∷ s) (IsFront (120 ∷ h ∷ l ∷ s))
    (λ a. cond_both (is_hex l) _ (Diagnostic InvalidCharInHexEscape) (λ (e : Element). IsFront (120 ∷ h ∷ l ∷ s) (e, s))
    (λ b. (120 ∷ h ∷ l ∷ [], refl, g.of_byte a b)) (λ b. (120 ∷ h ∷ l ∷ [], refl, g.bad_second a b)))
    (λ a. (120 ∷ h ∷ [], refl, g.bad_first a))

digits-are : (c : ℕ) (s : List ℕ) → is_hex c ≡ true → IsFront (117 ∷ 123 ∷ c ∷ s) (closed_at_run (c ∷ s))
digits-are c s digit =
    rw (digit-runs c digit)
    (by_left (past_run is_digit_or_underscore s) (run-cut is_digit_or_underscore s)
    (run-stops is_digit_or_underscore s))
  where
    ds : List ℕ
    ds = front_run is_digit_or_underscore s

    are : AreDigits (c ∷ ds)
    are = g.some digit (run-all is_digit_or_underscore s)

    past-one : (x : ℕ) (left : List ℕ) → s ≡ ds ++ x ∷ left → 117 ∷ 123 ∷ c ∷ s ≡ 117 ∷ 123 ∷ c ∷ (ds ++ x ∷ []) ++ left
    past-one x left text = ap (λ xs. 117 ∷ 123 ∷ c ∷ xs) (text ∙ sym (append_assoc ds (x ∷ []) left))

    by_left : (left : List ℕ) → s ≡ ds ++ left → next_is is_digit_or_underscore left ≡ false
        → IsFront (117 ∷ 123 ∷ c ∷ s) (closed (c ∷ ds) left)
    by_left [] text stops = (117 ∷ 123 ∷ c ∷ ds, ap (λ xs. 117 ∷ 123 ∷ c ∷ xs) text, g.unclosed refl are)
    by_left (x ∷ left) text stops =
        cond_both (x == 125) (number (filter is_hex (c ∷ ds))) (Diagnostic InvalidCharInUnicodeEscape)
        (λ (r : Element). IsFront (117 ∷ 123 ∷ c ∷ s) (r, left))
        (λ close.
        let whole = past-one 125 left (text ∙ ap (λ y. ds ++ y ∷ left) (eqb-true x 125 close)) in
        cond_both (nat_le (length (filter is_hex (c ∷ ds))) 6) (Unicode (hex_value (filter is_hex (c ∷ ds))))
        (Diagnostic OverlongUnicodeEscape) (λ (r : Element). IsFront (117 ∷ 123 ∷ c ∷ s) (r, left))
        (λ few. (117 ∷ 123 ∷ c ∷ (ds ++ 125 ∷ []), whole, g.of_number are (leb-true _ 6 few)))
        (λ many. (117 ∷ 123 ∷ c ∷ (ds ++ 125 ∷ []), whole, g.too_many are (leb-false _ 6 many))))
        (λ inner. (117 ∷ 123 ∷ c ∷ (ds ++ x ∷ []), past-one x left text, g.bad_digit x are stops inner))

braced-is : (s : List ℕ) → IsFront (117 ∷ 123 ∷ s) (braced s)
braced-is [] = (117 ∷ 123 ∷ [], refl, g.unclosed refl g.none)
braced-is (c ∷ s) =
    cond_both (c == 95) (Diagnostic LeadingUnderscoreUnicodeEscape, s) _ (IsFront (117 ∷ 123 ∷ c ∷ s))
    (at-char (λ x. IsFront (117 ∷ 123 ∷ x ∷ s) (Diagnostic LeadingUnderscoreUnicodeEscape, s)) c 95
    (117 ∷ 123 ∷ 95 ∷ [], refl, g.underscore)) (λ a.
    cond_both (c == 125) (Diagnostic EmptyUnicodeEscape, s) _ (IsFront (117 ∷ 123 ∷ c ∷ s))
    (at-char (λ x. IsFront (117 ∷ 123 ∷ x ∷ s) (Diagnostic EmptyUnicodeEscape, s)) c 125
    (117 ∷ 123 ∷ 125 ∷ [], refl, g.empty)) (λ b.
    cond_both (is_hex c) (closed_at_run (c ∷ s)) (Diagnostic InvalidCharInUnicodeEscape, s)
    (IsFront (117 ∷ 123 ∷ c ∷ s))
    (digits-are c s) (λ d.
    (117 ∷ 123 ∷ c ∷ [], refl, g.bad_digit c g.none (ap (λ x. x || is_hex c) a ∙ d) b))))

unicode-is : (s : List ℕ) → IsFront (117 ∷ s) (unicode s)
unicode-is [] = (117 ∷ [], refl, g.no_more refl)
unicode-is (c ∷ s) = cond_both (c == 123) (braced s) (Diagnostic NoBraceInUnicodeEscape, s) (IsFront (117 ∷ c ∷ s))
    (at-char (λ x. IsFront (117 ∷ x ∷ s) (braced s)) c 123 (braced-is s)) (λ e. (117 ∷ c ∷ [], refl, g.no_brace e))

pub escape-is : (s : List ℕ) → IsFront s (escape s)
escape-is [] = ([], refl, g.lone refl)
escape-is (c ∷ s) =
    cond_both (c == 120) (hex s) _ (IsFront (c ∷ s)) (at-char (λ x. IsFront (x ∷ s) (hex s)) c 120 (hex-is s)) (λ x.
    cond_both (c == 117) (unicode s) _ (IsFront (c ∷ s))
    (at-char (λ y. IsFront (y ∷ s) (unicode s)) c 117 (unicode-is s)) (λ u.
    short-is c s x u))

-- ---- elements

module _ (special : List ℕ) (unescaped : ℕ → Element)
    (plain : (c : ℕ) → is_among (92 ∷ 13 ∷ special) c ≡ false → unescaped c ≡ Plain c)
    (of_special : (c : ℕ) → is_among special c ≡ true → ((c == 92) ≡ false) × (unescaped c ≡ Diagnostic EscapeOnlyChar))
    (bare : unescaped 13 ≡ Diagnostic BareCarriageReturn)
    (sound : (c : ℕ) (s : List ℕ) → (c == 92) ≡ false → IsElementBefore special s (unescaped c) (c ∷ [])) where
  abbrev pub read_element : ℕ → List ℕ → Element × List ℕ
  read_element c s = if c == 92 then escape s else (unescaped c, s)

  -- Holds if the model reads an element of the grammar at the start of a text.
  pub record Reads (next : List ℕ) (e : Element) (w : List ℕ) : Type 0 where
    pub first : ℕ
    pub others : List ℕ
    pub whole : w ≡ first ∷ others
    pub read : read_element first (others ++ next) ≡ (e, next)

  pub element-reads : {next : List ℕ} {e : Element} {w : List ℕ} → IsElementBefore special next e w → Reads next e w
  element-reads {next} (g.plain {c} out) =
      record {
        first = c;
        others = [];
        whole = refl;
        read = rw (or_parts (c == 92) _ out).0
            (ap (λ x. (x, next)) (plain c out));
      }
  element-reads {next} (g.escape {w = w} at) = record { first = 92; others = w; whole = refl; read = escape-reads at }
  element-reads {next} (g.unescaped {c} among) = let m = of_special c among in
      record { first = c; others = []; whole = refl; read = rw m.0 (ap (λ x. (x, next)) m.1) }
  element-reads {next} g.bare = record { first = 13; others = []; whole = refl; read = ap (λ x. (x, next)) bare }

  -- Holds if the grammar has the element that the model reads at the start of a text.
  pub record Has (c : ℕ) (s : List ℕ) (read : Element × List ℕ) : Type 0 where
    pub others : List ℕ
    pub whole : s ≡ others ++ read.1
    pub is : IsElementBefore special read.1 read.0 (c ∷ others)

  pub element-is : (c : ℕ) (s : List ℕ) → Has c s (read_element c s)
  element-is c s = cond_both (c == 92) (escape s) (unescaped c, s) (Has c s)
      (at-char (λ x. Has x s (escape s)) c 92 (let at = escape-is s in
      record { others = at.0; whole = at.1; is = g.escape at.2 }))
      (λ e. record { others = []; whole = refl; is = sound c s e })
