-- Between single quotes, the model reads exactly the value or the error of the grammar.
use Rattle.std.proofs.Common.{◌≡◌, ℕ, ◌==◌, true, false, List, [], ◌∷◌, ◌++◌, Result, Ok, Err, refl, sym, ap, subst}
use Rattle.std.proofs.Common.{◌∙◌, arith, append_assoc}
use Rattle.std.proofs.lemmas.{Bool.{cond_both, or_parts}, List.{append-nil}, Bool.Decides.{nat_tests}}
use Rattle.std.proofs.lemmas.Grind.{common_steps}
use Rattle.rustc_literal_escaper.specs.declared.element.Element.{Element}
use Rattle.rustc_literal_escaper.specs.declared.element.Element.TheVariants.{Plain, Diagnostic}
use Rattle.rustc_literal_escaper.specs.declared.error.EscapeError.{EscapeError}
use Rattle.rustc_literal_escaper.specs.declared.error.EscapeError.TheVariants.{BareCarriageReturn, EscapeOnlyChar}
use Rattle.rustc_literal_escaper.specs.declared.error.EscapeError.TheVariants.{MoreThanOneChar}
use Rattle.rustc_literal_escaper.specs.Grammar as g
use Rattle.rustc_literal_escaper.specs.Grammar.{Error, IsElementBefore, IsSingle, bytes, is_among}
use Rattle.rustc_literal_escaper.specs.laws.Elements.{bytes-append}
use Rattle.rustc_literal_escaper.specs.laws.Escape.{Reads, at-char, element-is, element-reads}
use Rattle.rustc_literal_escaper.specs.model.Elements.{place}
use Rattle.rustc_literal_escaper.specs.model.Single.{only, read_single, single, unescaped}

abbrev special : List ℕ
special = 39 ∷ 10 ∷ 9 ∷ []

unescaped-is : (c : ℕ) (s : List ℕ) → (c == 92) ≡ false → IsElementBefore special s (unescaped c) (c ∷ [])
unescaped-is c s slash =
    cond_both (c == 10) (Diagnostic EscapeOnlyChar) _ (λ (e : Element). IsElementBefore special s e (c ∷ []))
    (at-char (λ x. IsElementBefore special s (Diagnostic EscapeOnlyChar) (x ∷ [])) c 10 (g.unescaped refl)) (λ a.
    cond_both (c == 9) (Diagnostic EscapeOnlyChar) _ (λ (e : Element). IsElementBefore special s e (c ∷ []))
    (at-char (λ x. IsElementBefore special s (Diagnostic EscapeOnlyChar) (x ∷ [])) c 9 (g.unescaped refl)) (λ b.
    cond_both (c == 39) (Diagnostic EscapeOnlyChar) _ (λ (e : Element). IsElementBefore special s e (c ∷ []))
    (at-char (λ x. IsElementBefore special s (Diagnostic EscapeOnlyChar) (x ∷ [])) c 39 (g.unescaped refl)) (λ d.
    cond_both (c == 13) (Diagnostic BareCarriageReturn) (Plain c)
    (λ (e : Element). IsElementBefore special s e (c ∷ []))
    (at-char (λ x. IsElementBefore special s (Diagnostic BareCarriageReturn) (x ∷ [])) c 13 g.bare) (λ e.
    g.plain (rw (slash, e, d, a, b) refl)))))

unescaped-plain : (c : ℕ) → is_among (92 ∷ 13 ∷ special) c ≡ false → unescaped c ≡ Plain c
unescaped-plain c out = grind (arith, common_steps, or_parts)

unescaped-special : (c : ℕ) → is_among special c ≡ true
    → ((c == 92) ≡ false) × (unescaped c ≡ Diagnostic EscapeOnlyChar)
unescaped-special c among = grind (arith, common_steps, nat_tests)

abbrev ReadsSingle : List ℕ → Element → List ℕ → Type 0
ReadsSingle = Reads special unescaped unescaped-plain unescaped-special refl unescaped-is

single-reads : {next : List ℕ} {e : Element} {w : List ℕ} → IsElementBefore special next e w → ReadsSingle next e w
single-reads = element-reads special unescaped unescaped-plain unescaped-special refl unescaped-is

module _ {U : Type 0} (meaning : Element → Result U EscapeError) where
  abbrev read : List ℕ → Result U Error
  read s = read_single (bytes s) meaning s

  -- The result follows from the first element and the text after it.
  read-first : {next : List ℕ} {e : Element} {w : List ℕ} (meant : Result U EscapeError)
      → IsElementBefore special next e w → meaning e ≡ meant → read (w ++ next) ≡ only (bytes (w ++ next)) meant next
  read-first {next} {e} {w} meant is means = let r = single-reads is in grind (arith, common_steps, r.whole, r.read)

  error-at : (w next : List ℕ) (error : EscapeError)
      → ◌≡◌ {A = Result U Error} (Err (record { start = 0; end = place (bytes (w ++ next)) next }, error))
      (Err (g.front_range w, error))
  error-at w next error = let sizes = bytes-append w next in grind (arith, common_steps)

  pub single-read : {s : List ℕ} {r : Result U Error} → IsSingle meaning s r → read s ≡ r
  single-read (g.unit {element = e} {w} {u} is means) = ap read (sym (append-nil w)) ∙ read-first (Ok u) is means
  single-read g.nothing = refl
  single-read (g.wrong {next} {element = e} {w} {error} is means) = read-first (Err error) is means
      ∙ error-at w next error
  single-read (g.more {c} {next} {element = e} {w} {u} is means) =
      grind (
        arith,
        common_steps,
        append_assoc w (c ∷ []) next,
        read-first (Ok u) is means,
        (append_assoc w (c ∷ []) next),
        error-at (w ++ c ∷ []) next MoreThanOneChar,
      )

  -- Every text has a value or an error.
  pub single-some : (s : List ℕ) → (r : Result U Error) × IsSingle meaning s r
  single-some [] = (_, g.nothing)
  single-some (c ∷ s) =
      let has = element-is special unescaped unescaped-plain unescaped-special refl unescaped-is c s in
      subst (λ (xs : List ℕ). (r : Result U Error) × IsSingle meaning xs r) (ap (λ xs. c ∷ xs) (sym has.whole))
      (by_meaning (single c s).1 (single c s).0 (c ∷ has.others) (meaning (single c s).0) refl has.is)
    where
      by_meaning : (left : List ℕ) (e : Element) (w : List ℕ) (meant : Result U EscapeError) → meaning e ≡ meant
          → IsElementBefore special left e w → (r : Result U Error) × IsSingle meaning (w ++ left) r
      by_meaning [] e w (Ok u) means is =
          (_, subst (λ (xs : List ℕ). IsSingle meaning xs (Ok u)) (sym (append-nil w)) (g.unit is means))
      by_meaning (d ∷ left) e w (Ok u) means is = (_, g.more is means)
      by_meaning left e w (Err error) means is = (_, g.wrong is means)
