-- The output for a character or a byte is one element with that value.
use Rattle.std.proofs.Common.{◌≡◌, ℕ, ◌+◌, ◌*◌, ◌/◌, ◌%◌, ◌<◌, ◌≤◌, ◌==◌, ◌&&◌, true, false, cond, List, [], ◌∷◌, ◌++◌}
use Rattle.std.proofs.Common.{append_assoc, length, map, fold, Result, Ok, refl, sym, ap, subst, ◌∙◌, arith, nat_lt}
use Rattle.std.specs.Char.{digit_char, digit_value, is_ascii, IsScalar}
use Rattle.std.specs.Char.Escape.{escape_ascii, escape_default, escape_or, escape_unicode, hex_digit_at}
use Rattle.std.specs.List.{list_all}
use Rattle.std.proofs.lemmas.Bool.{agree_below_at, cond-false, cond-true, cond_both, le-leb, lt-ltb, ltb-false}
use Rattle.std.proofs.lemmas.Bool.{ltb-true}
use Rattle.std.proofs.{lemmas.{Bool.Decides.{nat_tests}, List.{append-nil}}, Math.Nat.{div-one}}
use Rattle.std.proofs.lemmas.{Str.{digit_value-digit_char}, Grind.{common_steps}}
use Rattle.rustc_literal_escaper.specs.declared.element.Element.{Element, TheVariants.{Byte, Plain, Unicode}}
use Rattle.rustc_literal_escaper.specs.{declared.error.EscapeError.{EscapeError}, model.Elements.{front, StartsWithOne}}
use Rattle.rustc_literal_escaper.specs.{laws.Escape.{by_char}, model.Escape.{braced, escape}, Grammar.{is_hex}}
use Rattle.rustc_literal_escaper.specs.{Meaning.{char_of}, Written.{CharComesBack}, model.Single.{StartsWithSingle}}
use Rattle.rustc_literal_escaper.proofs.AnswerLemmas.{literal_read, literal_is}
use Rattle.rustc_literal_escaper.proofs.DigitLemmas.{left_at, left_at-brace, left_at-digit, left_at-start, with_digit}
use Rattle.rustc_literal_escaper.proofs.ItemLemmas.{front_by-plain}

-- ---- the last hexadecimal digit of a number

digit-value : (q : ℕ) → digit_value (digit_char (q % 16)) ≡ q % 16
digit-value q = digit_value-digit_char (q % 16) (omega arith)

digit-hex : (q : ℕ) → is_hex (digit_char (q % 16)) ≡ true
digit-hex q = agree_below_at (λ d. is_hex (digit_char d)) (λ d. true) 16 (q % 16) refl (omega arith)

digit-ascii : (q : ℕ) → is_ascii (digit_char (q % 16)) ≡ true
digit-ascii q = agree_below_at (λ d. is_ascii (digit_char d)) (λ d. true) 16 (q % 16) refl (omega arith)

-- Returns the last hexadecimal digits of some numbers.
abbrev word : List ℕ → List ℕ
word qs = map (λ q. digit_char (q % 16)) qs

word-ascii : (qs : List ℕ) → list_all is_ascii (word qs ++ 125 ∷ []) ≡ true
word-ascii [] = refl
word-ascii (q ∷ qs) = ap (λ b. b && list_all is_ascii (word qs ++ 125 ∷ [])) (digit-ascii q) ∙ word-ascii qs

abbrev value_past : ℕ → List ℕ → ℕ
value_past v qs = fold (λ value q. value * 16 + q % 16) v qs

word-left : (v n : ℕ) (qs s : List ℕ) → n + length qs ≤ 6 → left_at v n (word qs ++ 125 ∷ s) ≡
    (Unicode (value_past v qs), s)
word-left v n [] s few = left_at-brace v n 125 s refl (omega arith)
word-left v n (q ∷ qs) s few =
    grind (
      arith,
      common_steps,
      left_at-brace,
      le-leb,
      left_at-digit,
      digit-hex,
      left_at,
      with_digit,
      lt-ltb,
      digit-value,
      word-left (v * 16 + q % 16) (n + 1) qs s (omega arith),
    )

-- Between braces, these digits are one number.
word-read : (q : ℕ) (qs s : List ℕ) → length qs ≤ 5 → braced (word (q ∷ qs) ++ 125 ∷ s) ≡
    (Unicode (value_past 0 (q ∷ qs)), s)
word-read q qs s few =
    cond-false _ _ _ (not 95 refl)
    ∙ (cond-false _ _ _ (not 125 refl) ∙ (cond-true (is_hex (digit_char (q % 16))) _ _ (digit-hex q)
    ∙ (sym (left_at-start (word (q ∷ qs) ++ 125 ∷ s)) ∙ word-left 0 0 (q ∷ qs) s (omega arith))))
  where
    not : (k : ℕ) → is_hex k ≡ false → (digit_char (q % 16) == k) ≡ false
    not k none = grind (arith, nat_tests, digit-hex q)

-- ---- one element

-- Holds if the text is ASCII, and is one element with the value `unit`, whatever text follows it.
pub record IsSpelled {U : Type 0} (meaning : Element → Result U EscapeError) (unit : U) (xs : List ℕ) : Type 0 where
  pub element : Element
  pub means : meaning element ≡ Ok unit
  pub ascii : list_all is_ascii xs ≡ true
  pub double : (s : List ℕ) → StartsWithOne false (xs ++ s) element s
  pub alone : (s : List ℕ) → StartsWithSingle (xs ++ s) element s

module _ {U : Type 0} (meaning : Element → Result U EscapeError) where
  escaped : (e : Element) (unit : U) (x : ℕ) (t : List ℕ) → meaning e ≡ Ok unit → list_all is_ascii (x ∷ t) ≡ true
      → (x == 10) ≡ false
      → ((s : List ℕ) → escape (x ∷ (t ++ s)) ≡ (e, s)) → IsSpelled meaning unit (92 ∷ x ∷ t)
  unfolding front
  escaped e unit x t m ascii line read = grind (arith, common_steps)

  -- The output is a short escape, the character itself, or another escape.
  or-spelled : (unit : ℕ → U) (c : ℕ) (xs : List ℕ) → (c < 127 → meaning (Byte c) ≡ Ok (unit c))
      → (c < 127 → meaning (Plain c) ≡ Ok (unit c))
      → IsSpelled meaning (unit c) xs → IsSpelled meaning (unit c) (escape_or c xs)
  or-spelled unit c xs byte plain other =
      by_char P c 9 (λ m. escaped (Byte 9) (unit 9) 116 [] (m (omega arith)) refl refl (λ s. refl)) (λ a.
      by_char P c 13 (λ m. escaped (Byte 13) (unit 13) 114 [] (m (omega arith)) refl refl (λ s. refl)) (λ b.
      by_char P c 10 (λ m. escaped (Byte 10) (unit 10) 110 [] (m (omega arith)) refl refl (λ s. refl)) (λ d.
      by_char P c 39 (λ m. escaped (Byte 39) (unit 39) 39 [] (m (omega arith)) refl refl (λ s. refl)) (λ e.
      by_char P c 34 (λ m. escaped (Byte 34) (unit 34) 34 [] (m (omega arith)) refl refl (λ s. refl)) (λ f.
      by_char P c 92 (λ m. escaped (Byte 92) (unit 92) 92 [] (m (omega arith)) refl refl (λ s. refl)) (λ g m.
      rw (a, b, d, e, f, g)
      (cond_both (nat_lt c 32) _ _ Spelled (λ h. other) (λ h. cond_both (nat_lt c 127) _ _ Spelled (λ l. record {
        element = Plain c;
        means = plain (ltb-true c 127 l);
        ascii = rw (lt-ltb c 128 (let i = ltb-true c 127 l in omega arith)) refl;
        double = λ s. front_by-plain false c s (rw (g, f, b) refl);
        alone = λ s. rw (g, d, a, e, b) refl;
      }) (λ l. other))))))))) byte
    where
      Spelled : List ℕ → Type 0
      Spelled = IsSpelled meaning (unit c)

      P : ℕ → Type 0
      P n = (n < 127 → meaning (Byte n) ≡ Ok (unit n)) → IsSpelled meaning (unit n) (escape_or n xs)

  pub byte-spelled : (unit : ℕ → U) (b : ℕ) → b < 256 → meaning (Byte b) ≡ Ok (unit b)
      → (b < 127 → meaning (Plain b) ≡ Ok (unit b)) → IsSpelled meaning (unit b) (escape_ascii b)
  byte-spelled unit b small byte plain =
      let value : b / 0x10 % 16 * 16 + b / 1 % 16 ≡ b = rw div-one (omega arith) in
      or-spelled unit b _ (λ l. byte) plain
      (escaped (Byte b) (unit b) 120 (hex_digit_at 0x10 b ∷ hex_digit_at 1 b ∷ []) byte
      (rw (digit-ascii (b / 0x10), digit-ascii (b / 1)) refl) refl
      (λ s. rw (digit-hex (b / 0x10), digit-hex (b / 1), digit-value (b / 0x10), digit-value (b / 1), value) refl))

unicode-spelled : (c : ℕ) → IsScalar c → IsSpelled char_of c (escape_unicode c)
unicode-spelled c is =
    let q1 : List ℕ = c / 1 ∷ [] in
    let q2 : List ℕ = c / 0x10 ∷ q1 in
    let q3 : List ℕ = c / 0x100 ∷ q2 in
    let q4 : List ℕ = c / 0x1000 ∷ q3 in
    let q5 : List ℕ = c / 0x1_0000 ∷ q4 in
    let one : c / 1 ≡ c = div-one c in
    below 0x10 (λ l. made (c / 1) [] (omega arith) (rw one (omega arith))) (λ _.
    below 0x100 (λ l. made (c / 0x10) q1 (omega arith) (rw one (omega arith))) (λ _.
    below 0x1000 (λ l. made (c / 0x100) q2 (omega arith) (rw one (omega arith))) (λ _.
    below 0x1_0000 (λ l. made (c / 0x1000) q3 (omega arith) (rw one (omega arith))) (λ _.
    below 0x10_0000 (λ l. made (c / 0x1_0000) q4 (omega arith) (rw one (omega arith))) (λ _.
    let l : c < 0x100_0000 = grind (arith, nat_tests) in
    made (c / 0x10_0000) q5 (omega arith) (rw one (omega arith)))))))
  where
    below : (k : ℕ) {x y : List ℕ} → (c < k → IsSpelled char_of c x) → (k ≤ c → IsSpelled char_of c y)
        → IsSpelled char_of c (cond (nat_lt c k) x y)
    below k {x} {y} p q = cond_both (nat_lt c k) x y (IsSpelled char_of c) (λ e. p (ltb-true c k e))
        (λ e. q (ltb-false c k e))

    made : (q : ℕ) (qs : List ℕ) → length qs ≤ 5 → value_past 0 (q ∷ qs) ≡ c
        → IsSpelled char_of c (92 ∷ 117 ∷ 123 ∷ (word (q ∷ qs) ++ 125 ∷ []))
    made q qs few value =
        escaped char_of (Unicode c) c 117 (123 ∷ (word (q ∷ qs) ++ 125 ∷ [])) (grind (arith, nat_tests))
        (word-ascii (q ∷ qs)) refl
        (λ s. ap braced (append_assoc (word (q ∷ qs)) (125 ∷ []) s)
        ∙ (word-read q qs s few ∙ ap (λ (n : ℕ). (Unicode n, s)) value))

pub char-spelled : (c : ℕ) → IsScalar c → IsSpelled char_of c (escape_default c)
char-spelled c is = or-spelled char_of (λ n. n) c (escape_unicode c) (λ l. rw (lt-ltb c 128 (omega arith)) refl)
    (λ l. refl) (unicode-spelled c is)

pub char_comes_back : CharComesBack
char_comes_back c is =
    let w = char-spelled c is in
    literal_read char_of (escape_default c)
    ∙ (sym (literal_is char_of (escape_default c) w.element
    (subst (λ (xs : List ℕ). StartsWithSingle xs w.element []) (append-nil (escape_default c)) (w.alone [])))
    ∙ w.means)
