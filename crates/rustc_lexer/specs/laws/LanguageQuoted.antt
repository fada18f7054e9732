-- Quoted text: the scanners read exactly the language.
use Rattle.std.proofs.Common.{◌≡◌, ℕ, ◌==◌, ◌||◌, not, Bool, true, false, true≢false, List, [], ◌∷◌, ◌++◌, length, take}
use Rattle.std.proofs.Common.{drop, codes, refl, sym, ap, ◌∙◌, subst, arith, take-append-drop}
use Rattle.std.proofs.lemmas.Bool.{and_parts, eqb-true, not-true, or_parts, or_cases, or_from}
use Rattle.std.proofs.{Math.Bool.{and-true, or-false}, lemmas.Grind.{common_steps}}
use Rattle.rustc_lexer.specs.Classes.{is_among, NextIn}
use Rattle.rustc_lexer.specs.laws.Choice.{by_either}
use Rattle.rustc_lexer.specs.LiteralGrammar as lit
use Rattle.rustc_lexer.specs.LiteralGrammar.{QuotedTo, ends, plain, escape, SingleTo, IsDoubleQuoted, IsSingleQuoted}
use Rattle.rustc_lexer.specs.model.Quoted.{is_backslash, one_past, quoted_from, quoted, at_double_quote}
use Rattle.rustc_lexer.specs.model.Quoted.{double_quoted_string, at_single_stop, is_lone, single_quoted_string}
use Rattle.rustc_lexer.specs.model.Scan.{begins}

-- ---- one pass

-- Returns a text with the backslash that escapes its first character, if it is escaped.
abbrev behind : Bool → List ℕ → List ℕ
behind true w = 92 ∷ w
behind false w = w

module _ (quote : ℕ) (test : List ℕ → Bool) (special : ℕ → Bool) (goes : (c : ℕ) (s : List ℕ) → special c ≡ false
    → test (c ∷ s) ≡ false)
    (straight : (c : ℕ) → special c ≡ false → is_backslash c ≡ false)
    (slashed : (s : List ℕ) → test (92 ∷ s) ≡ false) where
  -- Text up to an end is read if the end is read.
  pub quoted-read : {end w : List ℕ} → QuotedTo end special w → (next : List ℕ) (t : Bool)
      → quoted quote test (end ++ next) ≡ (t, length end) → quoted quote test (w ++ next) ≡ (t, length w)
  quoted-read ends next t e = e
  quoted-read (plain {c} {w} out q) next t e =
      rw (goes c (w ++ next) out, straight c out) (ap one_past (quoted-read q next t e))
  quoted-read (escape {c} {w} q) next t e =
      rw (slashed (c ∷ w ++ next)) (ap (λ (r : Bool × ℕ). one_past (one_past r)) (quoted-read q next t e))

  module _ (Is : List ℕ → Bool → List ℕ → Type 0) where
    -- Holds if w continues to an end, and every text that continues to this end is in the language.
    abbrev pub Ends : List ℕ → Bool → List ℕ → Type 0
    Ends next t w = (end : List ℕ) × QuotedTo end special w × ((v : List ℕ) → QuotedTo end special v → Is next t v)

    abbrev pub Sound : Bool → List ℕ → Type 0
    Sound escaped s = let r = quoted_from quote test escaped s in Ends (drop r.1 s) r.0 (behind escaped (take r.1 s))

    -- Everything that is read continues to an end, if the end of the text, a single backslash before it, and every
    -- special character are ends.
    pub quoted-sound : ((v : List ℕ) → QuotedTo [] special v → Is [] false v)
        → ((v : List ℕ) → QuotedTo (92 ∷ []) special v → Is [] false v)
        → ((c : ℕ) (s : List ℕ) → special c ≡ true → is_backslash c ≡ false → Sound false (c ∷ s))
        → (escaped : Bool) (s : List ℕ) → Sound escaped s
    quoted-sound none slash stops false [] = ([], ends, none)
    quoted-sound none slash stops true [] = (92 ∷ [], ends, slash)
    quoted-sound none slash stops true (c ∷ s) = let is = quoted-sound none slash stops false s in
        (is.0, escape is.1, is.2)
    quoted-sound none slash stops false (c ∷ s) = by_either (special c)
        (λ e. by_either (is_backslash c)
        (λ f. subst (λ (x : ℕ). Sound false (x ∷ s)) (sym (eqb-true c 92 f))
        (rw (slashed s) (quoted-sound none slash stops true s))) (stops c s e))
        (λ e. rw (goes c s e, straight c e) (let is = quoted-sound none slash stops false s in
        (is.0, plain e is.1, is.2)))

-- ---- double quotes

abbrev is_double : ℕ → Bool
is_double c = is_among (codes "\"\\") c

double-goes : (c : ℕ) (s : List ℕ) → is_double c ≡ false → at_double_quote (c ∷ s) ≡ false
double-goes c s e = (or_parts (c == 34) _ e).0

double-straight : (c : ℕ) → is_double c ≡ false → is_backslash c ≡ false
double-straight c e = (or_parts (c == 92) false (or_parts (c == 34) _ e).1).0

double-to : {end w : List ℕ} → QuotedTo end is_double w → (next : List ℕ) (t : Bool)
    → double_quoted_string (end ++ next) ≡ (t, length end) → double_quoted_string (w ++ next) ≡ (t, length w)
double-to = quoted-read 34 at_double_quote is_double double-goes double-straight (λ s. refl)

pub double-read : {next : List ℕ} {t : Bool} {w : List ℕ} → IsDoubleQuoted next t w → double_quoted_string (w ++ next) ≡
    (t, length w)
double-read {next} (lit.closed q) = double-to q next true refl
double-read {next} (lit.unclosed none q) = double-to q next false (ap double_quoted_string none)
double-read {next} (lit.unclosed_escape none q) =
    double-to q next false (ap (λ (s : List ℕ). double_quoted_string (92 ∷ s)) none)

pub double-sound : (s : List ℕ) → IsDoubleQuoted (drop (double_quoted_string s).1 s) (double_quoted_string s).0
    (take (double_quoted_string s).1 s)
double-sound s = let is =
    quoted-sound 34 at_double_quote is_double double-goes double-straight (λ s. refl) IsDoubleQuoted
    (λ v. lit.unclosed refl) (λ v. lit.unclosed_escape refl) at_quote false s in is.2 _ is.1
  where
    at_quote : (c : ℕ) (s : List ℕ) → is_double c ≡ true → is_backslash c ≡ false
        → Sound 34 at_double_quote is_double double-goes double-straight (λ s. refl) IsDoubleQuoted false (c ∷ s)
    at_quote c s sp other =
        let same : c ≡ 34 = eqb-true c 34 (sym (or-false (c == 34)) ∙ (rw other at sp)) in
        subst (λ (x : ℕ). Sound 34 at_double_quote is_double double-goes double-straight
        (λ s. refl) IsDoubleQuoted false (x ∷ s)) (sym same) (34 ∷ [], ends, λ v. lit.closed)

-- ---- single quotes

abbrev is_single : ℕ → Bool
is_single c = is_among (codes "'/\n\\") c

single-goes : (c : ℕ) (s : List ℕ) → is_single c ≡ false → at_single_stop (c ∷ s) ≡ false
single-goes c s e = grind (arith, common_steps, or_parts)

single-straight : (c : ℕ) → is_single c ≡ false → is_backslash c ≡ false
single-straight c e =
    (or_parts (c == 92) false (or_parts (c == 10) _ (or_parts (c == 47) _ (or_parts (c == 39) _ e).1).1).1).0

abbrev past_quote : List ℕ → Bool × ℕ
past_quote s = quoted 39 at_single_stop s

-- Whether the text starts with a quote or a slash, and then a quote.
abbrev is_lone_stop : List ℕ → Bool
is_lone_stop s = begins (codes "''") s || begins (codes "/'") s

-- Otherwise the pass also reads one character and a quote.
lone-passed : (s : List ℕ) → is_lone_stop s ≡ false → is_lone s ≡ true → past_quote s ≡ (true, 2)
lone-passed s none e = grind (arith, common_steps, eqb-true, and_parts, or_parts)

single-free : (s : List ℕ) → is_lone_stop s ≡ false → single_quoted_string s ≡ past_quote s
single-free s none = by_either (is_lone s) (λ e. rw e (sym (lone-passed s none e))) (λ e. rw e refl)

no-lone_stop : {end w : List ℕ} → SingleTo end w → (next : List ℕ) → (w ≡ end → is_lone_stop (w ++ next) ≡ false)
    → is_lone_stop (w ++ next) ≡ false
no-lone_stop w0 next w1 = grind (arith, common_steps, or_parts)

-- Text up to an end is read.
single-to : {end w : List ℕ} → SingleTo end w → (next : List ℕ) (t : Bool)
    → (w ≡ end → is_lone_stop (w ++ next) ≡ false) → past_quote (end ++ next) ≡ (t, length end)
    → single_quoted_string (w ++ next) ≡ (t, length w)
single-to {w = w} q next t free e = single-free (w ++ next) (no-lone_stop q next free)
    ∙ quoted-read 39 at_single_stop is_single single-goes single-straight (λ s. refl) q next t e

-- A text whose next character is d starts with d.
is-next : (d : ℕ) (s : List ℕ) → NextIn (d ∷ []) s → s ≡ d ∷ drop 1 s
is-next d s w2 = grind (arith, common_steps, or_cases, eqb-true)

pub single-read : {next : List ℕ} {t : Bool} {w : List ℕ} → IsSingleQuoted next t w → single_quoted_string (w ++ next) ≡
    (t, length w)
single-read {next} (lit.one {c} out) = rw out refl
single-read {next} (lit.closed {w} q none) =
    single-to q next true
    (λ e. or_from (begins (codes "''") (w ++ next)) _ none (ap (λ v. begins (codes "/'") (v ++ next)) e)) refl
single-read {next} (lit.closed_line q) = single-to q next true (λ e. ap (λ v. is_lone_stop (v ++ next)) e) refl
single-read {next} (lit.at_slash {w} q slash none) =
    let at = is-next 47 next slash in
    single-to q next false
    (λ e. or_from (begins (codes "''") (w ++ next)) _
    (ap (λ v. begins (codes "''") (v ++ next)) e ∙ ap (begins (codes "''")) at) none) (ap past_quote at)
single-read {next} (lit.at_newline q line none) =
    let at = is-next 10 next line in
    let alone : begins (codes "'") (drop 1 next) ≡ false = ap (begins (codes "\n'")) (sym at) ∙ none in
    single-to q next false (λ e. ap (λ v. is_lone_stop (v ++ next)) e ∙ ap is_lone_stop at)
    (ap past_quote at ∙ rw alone refl)
single-read {next} (lit.unclosed none q) =
    single-to q next false (λ e. ap (λ v. is_lone_stop (v ++ next)) e ∙ ap is_lone_stop none) (ap past_quote none)
single-read {next} (lit.unclosed_escape none q) =
    single-to q next false (λ e. ap (λ v. is_lone_stop (v ++ next)) e) (ap (λ s. past_quote (92 ∷ s)) none)

-- A text that does not start with one character and a quote does not start with this character and a quote.
lone-none : (d : ℕ) (s : List ℕ) → (d == 92) ≡ false → is_lone s ≡ false → begins (d ∷ 39 ∷ []) s ≡ false
lone-none d w1 ne e = grind (arith, common_steps, eqb-true)

-- Holds if w is in the language, unless the text starts with one character and a quote.
abbrev Free : List ℕ → Bool → List ℕ → Type 0
Free next t w = is_lone (w ++ next) ≡ false → IsSingleQuoted next t w

pub single-sound : (s : List ℕ) → IsSingleQuoted (drop (single_quoted_string s).1 s) (single_quoted_string s).0
    (take (single_quoted_string s).1 s)
single-sound s = by_either (is_lone s)
    (λ e. rw e (one_here s e))
    (λ e. rw e (let is = quoted-sound 39 at_single_stop is_single single-goes single-straight (λ s. refl) Free
    (λ v q alone. lit.unclosed refl q) (λ v q alone. lit.unclosed_escape refl q) at_stop false s in
    is.2 _ is.1 (ap is_lone (take-append-drop (past_quote s).1 s) ∙ e)))
  where
    one_here : (s : List ℕ) → is_lone s ≡ true → IsSingleQuoted (drop 2 s) true (take 2 s)
    one_here [] e = absurd (true≢false (sym e))
    one_here (c ∷ []) e = absurd (true≢false (sym (and_parts (not (begins (92 ∷ []) (c ∷ []))) false e).1))
    one_here (c ∷ d ∷ s) e =
        let parts = and_parts (not (begins (92 ∷ []) (c ∷ d ∷ s))) _ e in
        let second : 39 ≡ d = sym (eqb-true d 39 (and_parts (d == 39) true parts.1).0) in
        subst (λ (x : ℕ). IsSingleQuoted s true (c ∷ x ∷ [])) second
        (lit.one (sym (and-true (c == 92)) ∙ not-true _ parts.0))

    Stop : List ℕ → Type 0
    Stop s = Sound 39 at_single_stop is_single single-goes single-straight (λ s. refl) Free false s

    at_line : (s : List ℕ) → Stop (10 ∷ s)
    at_line [] = ([], ends, λ v q alone. lit.at_newline q refl refl)
    at_line (d ∷ s) = by_either (d == 39)
        (λ e. subst (λ (x : ℕ). Stop (10 ∷ x ∷ s)) (sym (eqb-true d 39 e))
        (codes "\n'", ends, λ v q alone. lit.closed_line q))
        (λ e. rw e ([], ends, λ v q alone. lit.at_newline q refl (rw e refl)))

    at_stop : (c : ℕ) (s : List ℕ) → is_single c ≡ true → is_backslash c ≡ false → Stop (c ∷ s)
    at_stop c s sp other = by_either (c == 39)
        (λ e. subst (λ (x : ℕ). Stop (x ∷ s)) (sym (eqb-true c 39 e))
        (codes "'", ends, λ v q alone. lit.closed q (lone-none 39 (v ++ s) refl alone)))
        (λ e. by_either (c == 47)
        (λ f. subst (λ (x : ℕ). Stop (x ∷ s)) (sym (eqb-true c 47 f))
        ([], ends, λ v q alone. lit.at_slash q refl (lone-none 47 (v ++ 47 ∷ s) refl alone)))
        (λ f. subst (λ (x : ℕ). Stop (x ∷ s))
        (sym (eqb-true c 10 (sym (or-false (c == 10)) ∙ (rw (e, f, other) at sp)))) (at_line s)))
