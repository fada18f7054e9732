-- The opening of a frontmatter: the model reads exactly the language.
use Rattle.std.proofs.lemmas.Grind.{common_steps}
use Rattle.std.proofs.Common.{◌≡◌, ℕ, zero, suc, ◌+◌, ◌≤◌, not, Bool, true, false, true≢false, List, [], ◌∷◌, ◌++◌}
use Rattle.std.proofs.Common.{length, take, drop, codes, refl, sym, ap, ◌∙◌, arith, append_assoc, length-append}
use Rattle.std.proofs.Common.{take-append-drop}
use Rattle.std.proofs.Math.Seq.{take-append_seam, drop-append_seam}
use Rattle.std.proofs.lemmas.Bool.{and_parts, eqb-true, or_parts, not-true, false_from_ne_true}
use Rattle.unicode_ident.proofs.Computing.{unicode_ident}
use Rattle.rustc_lexer.specs.Classes.{is_among, is_whitespace, is_horizontal_whitespace, is_id_start, AreAll, NextIsNot}
use Rattle.rustc_lexer.specs.Classes.{is_info}
use Rattle.rustc_lexer.specs.model.Frontmatter.{is_dash, then_len, spaces_len, fence_len, blanks_len, infostring_len}
use Rattle.rustc_lexer.specs.model.Frontmatter.{label_len, opening_len, ends_line, opens}
use Rattle.rustc_lexer.specs.laws.LanguageRuns.{run_len-here, run-stops, either-way, none-among}
use Rattle.rustc_lexer.specs.laws.Reach.{run_all, run_len-out}
use Rattle.rustc_lexer.specs.laws.Fences.{begins-dashes, begins-enough}
use Rattle.rustc_lexer.specs.FrontmatterGrammar as the
use Rattle.rustc_lexer.specs.FrontmatterGrammar.{fence, IsLabelBefore, IsOpeningBefore, OpensNone}
use Rattle.rustc_lexer.specs.model.Scan.{begins, next_is, run_len}

-- ---- classes

-- No identifier starts with horizontal whitespace.
blank-no_start : (c : ℕ) → is_horizontal_whitespace c ≡ true → is_id_start c ≡ false
unfolding unicode_ident
blank-no_start c e = none-among is_id_start (0x9 ∷ 0x20 ∷ []) refl c e

start-no_blank : (c : ℕ) → is_id_start c ≡ true → is_horizontal_whitespace c ≡ false
start-no_blank c e =
    false_from_ne_true (is_horizontal_whitespace c) (λ b. either-way (is_id_start c) e (blank-no_start c b))

-- ---- lines

-- A text that ends with a newline ends a line.
line-ends : (u : List ℕ) → ends_line (u ++ 10 ∷ []) ≡ true
line-ends [] = refl
line-ends (c ∷ []) = refl
line-ends (c ∷ d ∷ u) = line-ends (d ∷ u)

record EndsLine (s : List ℕ) : Type 0 where
  front : List ℕ
  whole : s ≡ front ++ 10 ∷ []

ends-line : (s : List ℕ) → ends_line s ≡ true → EndsLine s
ends-line [] e = absurd (true≢false (sym e))
ends-line (c ∷ []) e = record { front = []; whole = ap (λ (x : ℕ). x ∷ []) (eqb-true c 10 e) }
ends-line (c ∷ d ∷ s) e = let r = ends-line (d ∷ s) e in
    record { front = c ∷ r.front; whole = ap (λ (xs : List ℕ). c ∷ xs) r.whole }

-- ---- dashes

pub fence-length : (n : ℕ) → length (fence n) ≡ n
fence-length zero = refl
fence-length (suc n) = ap suc (fence-length n)

fence-run : (n : ℕ) (v : List ℕ) → NextIsNot is_dash v → run_len is_dash (fence n ++ v) ≡ n
fence-run zero [] stop = refl
fence-run zero (c ∷ v) stop = run_len-out is_dash c v stop
fence-run (suc n) v stop = ap suc (fence-run n v stop)

pub run-fence : (s : List ℕ) → take (run_len is_dash s) s ≡ fence (run_len is_dash s)
run-fence [] = refl
run-fence (c ∷ s) = grind (arith, common_steps, eqb-true, run-fence s)

dash-stops : (s : List ℕ) → NextIsNot (is_among (codes "-")) s → NextIsNot is_dash s
dash-stops s w1 = grind (arith, common_steps, or_parts)

stops-dash : (s : List ℕ) → NextIsNot is_dash s → NextIsNot (is_among (codes "-")) s
stops-dash s w1 = grind (arith, common_steps)

fence-no_space : (n : ℕ) (v : List ℕ) → 3 ≤ n → NextIsNot is_whitespace (fence n ++ v)
fence-no_space n v w2 = grind (arith, common_steps)

-- ---- the model reads every opening

blanks-none : (s : List ℕ) → NextIsNot is_horizontal_whitespace s → blanks_len s ≡ 0
blanks-none s w1 = grind (arith, common_steps, run_len-out)

info-none : (s : List ℕ) → NextIsNot is_id_start s → infostring_len s ≡ 0
info-none s stop = rw stop refl

-- The length of two parts is the length of the first and then of the second.
then-read : (first next : List ℕ → ℕ) (u v s : List ℕ) → s ≡ u ++ v → first s ≡ length u
    → then_len first next s ≡ length u + next v
then-read first next u v s e f = grind (arith, common_steps, drop-append_seam)

label-read : {next w : List ℕ} → IsLabelBefore next w → label_len (w ++ next) ≡ length w
label-read {next} (the.blank {w} all stop start) =
    grind (arith, common_steps, then-read, run_len-here, info-none, blanks-none)
label-read {next} (the.named u c v w blanks start info info_stops more stop) =
    let text : (u ++ (c ∷ v ++ w)) ++ next ≡ (u ++ (c ∷ v)) ++ (w ++ next) = append_assoc u (c ∷ v ++ w) next
    ∙ (ap (λ (xs : List ℕ). u ++ (c ∷ xs)) (append_assoc v w next) ∙ sym (append_assoc u (c ∷ v) (w ++ next))) in
    let text_first : (u ++ (c ∷ v ++ w)) ++ next ≡ u ++ (c ∷ v ++ (w ++ next)) = append_assoc u (c ∷ v ++ w) next
    ∙ ap (λ (xs : List ℕ). u ++ (c ∷ xs)) (append_assoc v w next) in
    let first : blanks_len ((u ++ (c ∷ v ++ w)) ++ next) ≡ length u =
    ap blanks_len text_first ∙ run_len-here is_horizontal_whitespace u (c ∷ v ++ (w ++ next)) blanks
    (start-no_blank c start) in
    let named : infostring_len (c ∷ v ++ (w ++ next)) ≡ 1 + length v =
    rw start (ap (λ (n : ℕ). 1 + n) (run_len-here is_info v (w ++ next) info info_stops)) in
    let one : then_len blanks_len infostring_len ((u ++ (c ∷ v ++ w)) ++ next) ≡ length (u ++ (c ∷ v)) =
    then-read blanks_len infostring_len u (c ∷ v ++ (w ++ next)) ((u ++ (c ∷ v ++ w)) ++ next) text_first first
    ∙ omega (arith, named, length-append u (c ∷ v)) in
    then-read (then_len blanks_len infostring_len) blanks_len (u ++ (c ∷ v)) (w ++ next)
    ((u ++ (c ∷ v ++ w)) ++ next) text one
    ∙ omega (
      arith,
      run_len-here is_horizontal_whitespace w next more stop,
      length-append u (c ∷ v),
      length-append u (c ∷ v ++ w),
      length-append v w,
    )

-- Holds if the model reads w, before `next`, as an opening with n dashes.
pub record ReadsOpening (n : ℕ) (bad_label : Bool) (w next : List ℕ) : Type 0 where
  pub opens_here : opens (w ++ next) ≡ true
  pub len : opening_len (w ++ next) ≡ length w
  pub dashes : fence_len (w ++ next) ≡ n
  pub space : next_is is_whitespace (w ++ next) ≡ next_is is_whitespace w
  pub line : not (next_is (is_among (codes "\n")) next) ≡ bad_label

pub opening-read : {next w : List ℕ} {n : ℕ} {bad_label : Bool} → IsOpeningBefore next n bad_label w
    → ReadsOpening n bad_label w next
opening-read {next} (the.opening n space label spaces no_line many is stop) =
    let rest : List ℕ = fence n ++ (label ++ next) in
    let text : (space ++ (fence n ++ label)) ++ next ≡ space ++ rest = append_assoc space (fence n ++ label) next
    ∙ ap (λ (xs : List ℕ). space ++ xs) (append_assoc (fence n) label next) in
    let s : List ℕ = (space ++ (fence n ++ label)) ++ next in
    let front : spaces_len s ≡ length space =
    ap spaces_len text ∙ run_len-here is_whitespace space rest spaces (fence-no_space n (label ++ next) many) in
    let left : drop (spaces_len s) s ≡ rest = ap (λ (k : ℕ). drop k s) front
    ∙ (ap (drop (length space)) text ∙ drop-append_seam space rest) in
    let taken : take (spaces_len s) s ≡ space = ap (λ (k : ℕ). take k s) front
    ∙ (ap (take (length space)) text ∙ take-append_seam space rest) in
    let run : run_len is_dash rest ≡ n = fence-run n (label ++ next) (dash-stops (label ++ next) stop) in
    let begun : begins (fence 3) (drop (spaces_len s) s) ≡ true =
    ap (begins (fence 3)) left ∙ begins-enough 3 rest (omega (arith, run, many)) in
    let line : ends_line (take (spaces_len s) s) ≡ false =
    ap ends_line taken ∙ false_from_ne_true (ends_line space) (λ e. let ends = ends-line space e in
    no_line ends.front ends.whole) in
    let fences : then_len spaces_len (run_len is_dash) s ≡ length (space ++ fence n) =
    then-read spaces_len (run_len is_dash) space rest s text front
    ∙ omega (arith, run, length-append space (fence n), fence-length n) in
    let text_label : s ≡ (space ++ fence n) ++ (label ++ next) =
    text ∙ sym (append_assoc space (fence n) (label ++ next)) in
    record {
      opens_here = rw (begun, line) refl;
      len = then-read (then_len spaces_len (run_len is_dash)) label_len (space ++ fence n)
          (label ++ next) s text_label fences
          ∙ omega (
            arith,
            label-read is,
            length-append space (fence n),
            length-append space (fence n ++ label),
            length-append (fence n) label,
          );
      dashes = ap (run_len is_dash) left ∙ run;
      space = some-front is_whitespace (space ++ (fence n ++ label)) next
          (omega (arith, length-append space (fence n ++ label), length-append (fence n) label, fence-length n));
      line = refl;
    }
  where
    some-front : (p : ℕ → Bool) (w next : List ℕ) → 1 ≤ length w → next_is p (w ++ next) ≡ next_is p w
    some-front p [] next le = absurd (omega arith)
    some-front p (c ∷ w) next le = refl

-- ---- everything that the model reads is an opening

record Labelled (s : List ℕ) : Type 0 where
  label : List ℕ
  rest : List ℕ
  whole : label ++ rest ≡ s
  is : IsLabelBefore rest label

labelled : (s : List ℕ) → Labelled s
labelled s = by_rest r refl (run-stops is_horizontal_whitespace s)
  where
    u : List ℕ
    u = take (blanks_len s) s

    r : List ℕ
    r = drop (blanks_len s) s

    whole : u ++ r ≡ s
    whole = take-append-drop (blanks_len s) s

    blanks : AreAll is_horizontal_whitespace u
    blanks = run_all is_horizontal_whitespace s

    by_start : (c : ℕ) (t : List ℕ) → r ≡ c ∷ t → NextIsNot is_horizontal_whitespace (c ∷ t) → (b : Bool)
        → is_id_start c ≡ b → Labelled s
    by_start c t e stop false f =
        record {
          label = u;
          rest = c ∷ t;
          whole = ap (λ (xs : List ℕ). u ++ xs) (sym e)
              ∙ whole;
          is = the.blank blanks stop f;
        }
    by_start c t e stop true f =
        let v : List ℕ = take (run_len is_info t) t in
        let t2 : List ℕ = drop (run_len is_info t) t in
        let w : List ℕ = take (blanks_len t2) t2 in
        let rest : List ℕ = drop (blanks_len t2) t2 in
        let whole_w : w ++ rest ≡ t2 = take-append-drop (blanks_len t2) t2 in
        let whole_v : v ++ t2 ≡ t = take-append-drop (run_len is_info t) t in
        let text : (u ++ (c ∷ v ++ w)) ++ rest ≡ s = append_assoc u (c ∷ v ++ w) rest
        ∙ (ap (λ (xs : List ℕ). u ++ (c ∷ xs))
        (append_assoc v w rest ∙ (ap (λ (xs : List ℕ). v ++ xs) whole_w ∙ whole_v))
        ∙ (ap (λ (xs : List ℕ). u ++ xs) (sym e) ∙ whole)) in
        record {
          label = u ++ (c ∷ v ++ w);
          rest = rest;
          whole = text;
          is = the.named u c v w blanks f (run_all is_info t) (ap (next_is is_info) whole_w ∙ run-stops is_info t)
              (run_all is_horizontal_whitespace t2) (run-stops is_horizontal_whitespace t2);
        }

    by_rest : (t : List ℕ) → r ≡ t → NextIsNot is_horizontal_whitespace r → Labelled s
    by_rest [] e stop =
        record {
          label = u;
          rest = [];
          whole = ap (λ (xs : List ℕ). u ++ xs) (sym e)
              ∙ whole;
          is = the.blank blanks refl refl;
        }
    by_rest (c ∷ t) e stop = by_start c t e (ap (next_is is_horizontal_whitespace) (sym e) ∙ stop) (is_id_start c) refl

pub record Opened (s : List ℕ) : Type 0 where
  pub count : ℕ
  pub front : List ℕ
  pub rest : List ℕ
  pub whole : front ++ rest ≡ s
  pub is : IsOpeningBefore rest count (not (next_is (is_among (codes "\n")) rest)) front

pub opened : (s : List ℕ) → opens s ≡ true → Opened s
opened s e =
    let parts = and_parts (begins (fence 3) (drop (spaces_len s) s)) (not (ends_line (take (spaces_len s) s))) e in
    let space : List ℕ = take (spaces_len s) s in
    let r : List ℕ = drop (spaces_len s) s in
    let n : ℕ = run_len is_dash r in
    let l = labelled (drop n r) in
    let no_line : ends_line space ≡ false = not-true (ends_line space) parts.1 in
    let stop : NextIsNot is_dash (l.label ++ l.rest) = ap (next_is is_dash) l.whole ∙ run-stops is_dash r in
    let fenced : fence n ++ drop n r ≡ r = ap (λ (xs : List ℕ). xs ++ drop n r) (sym (run-fence r))
    ∙ take-append-drop n r in
    record {
      count = n;
      front = space ++ (fence n ++ l.label);
      rest = l.rest;
      whole = append_assoc space (fence n ++ l.label) l.rest
          ∙ (ap (λ (xs : List ℕ). space ++ xs)
          (append_assoc (fence n) l.label l.rest ∙ (ap (λ (xs : List ℕ). fence n ++ xs) l.whole ∙ fenced))
          ∙ take-append-drop (spaces_len s) s);
      is = the.opening n space l.label (run_all is_whitespace s)
          (λ u f. either-way (ends_line space) (ap ends_line f ∙ line-ends u) no_line) (begins-dashes 3 r parts.0) l.is
          (stops-dash (l.label ++ l.rest) stop);
    }

-- A text in which the model finds no opening has none.
pub opens-none : (s : List ℕ) → opens s ≡ false → OpensNone s
opens-none s e n bad_label w next f is = let r = opening-read is in
    either-way (opens (w ++ next)) r.opens_here (ap opens (sym f) ∙ e)

pub none-opens : (s : List ℕ) → OpensNone s → opens s ≡ false
none-opens s none = false_from_ne_true (opens s) (λ e. let o = opened s e in
    none o.count _ o.front o.rest (sym o.whole) o.is)
