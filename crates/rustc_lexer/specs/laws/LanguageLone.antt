-- Lone dashes: the search through a text finds the first lone dashes that the language defines.
use Rattle.std.proofs.Common.{◌≡◌, ℕ, zero, suc, ◌≤◌, ◌==◌, ◌&&◌, ◌||◌, not, inl, inr, Bool, true, false, true≢false}
use Rattle.std.proofs.Common.{List, [], ◌∷◌, ◌++◌, reverse, length, take, drop, codes, refl, sym, ap, ◌∙◌, subst, arith}
use Rattle.std.proofs.Common.{append_assoc, length-drop}
use Rattle.std.proofs.Math.{Bool.{and-false}, Seq.{take-append_seam, drop-append_seam}}
use Rattle.std.proofs.lemmas.Bool.{and_parts, eqb-true, or_cases, not-true, false_from_ne_true}
use Rattle.std.proofs.lemmas.List.{append-nil, reverse-append, reverse-reverse, Folds.{list_all-append}}
use Rattle.std.specs.List.{list_all}
use Rattle.std.proofs.lemmas.Grind.{common_steps}
use Rattle.rustc_lexer.specs.Classes.{is_horizontal_whitespace, Chars, AreAll}
use Rattle.rustc_lexer.specs.FrontmatterGrammar as the
use Rattle.rustc_lexer.specs.FrontmatterGrammar.{fence, IsEdge, IsLone}
use Rattle.rustc_lexer.specs.model.Frontmatter.{blank_past, first_lone}
use Rattle.rustc_lexer.specs.model.Least.{one_more, least}
use Rattle.rustc_lexer.specs.model.Scan.{begins}
use Rattle.rustc_lexer.specs.laws.Choice.{by_either}
use Rattle.rustc_lexer.specs.laws.Fences.{begins-whole}
use Rattle.rustc_lexer.specs.laws.LanguageRuns.{either-way}

-- ---- the conditions of the language, on a text that is read backwards

-- Whether the text before an offset ends with an edge and then blanks only. The argument is this text, read backwards.
abbrev pub standing : List ℕ → Bool
standing [] = true
standing (c ∷ r) =
    c == 10 || ((is_horizontal_whitespace c && standing r) ||
    (begins (fence 3) (c ∷ r) && not (begins (fence 1) (drop 2 r))))

-- Whether there are lone dashes i characters after the offset.
abbrev pub lone_at : List ℕ → ℕ → List ℕ → Bool
lone_at r zero s = standing r && begins (fence 3) s
lone_at r (suc i) [] = false
lone_at r (suc i) (c ∷ s) = lone_at (c ∷ r) i s

lone_at-is : (r s : List ℕ) (i : ℕ)
    → lone_at r i s ≡ (standing (reverse (take i s) ++ r) && begins (fence 3) (drop i s))
lone_at-is r s zero = refl
lone_at-is r [] (suc i) = sym (and-false (standing r))
lone_at-is r (c ∷ s) (suc i) = lone_at-is (c ∷ r) s i ∙ ap (λ (u : List ℕ). standing u && begins (fence 3) (drop i s))
    (sym (append_assoc (reverse (take i s)) (c ∷ []) r)
    ∙ ap (λ (u : List ℕ). u ++ r) (sym (reverse-append (c ∷ []) (take i s))))

lone_at-text : (s : List ℕ) (i : ℕ) → lone_at [] i s ≡ (standing (reverse (take i s)) && begins (fence 3) (drop i s))
lone_at-text s i = lone_at-is [] s i ∙ ap (λ (u : List ℕ). standing u && begins (fence 3) (drop i s))
    (append-nil (reverse (take i s)))

record IsStanding (u : Chars) : Type 0 where
  edge : Chars
  blanks : Chars
  whole : edge ++ blanks ≡ u
  is : IsEdge edge
  all : AreAll is_horizontal_whitespace blanks

-- If the test passes, the language allows lone dashes at the offset.
is-standing : (r : List ℕ) → standing r ≡ true → IsStanding (reverse r)
is-standing [] e = record { edge = []; blanks = []; whole = refl; is = the.front; all = refl }
is-standing (c ∷ r) e = elim (or_cases (c == 10) _ e) [
  | inl line ↦ record {
    edge = reverse r ++ codes "\n";
    blanks = [];
    whole = append-nil _
        ∙ (ap (λ (x : ℕ). reverse r ++ (x ∷ [])) (sym (eqb-true c 10 line)) ∙ sym (reverse-append (c ∷ []) r));
    is =
        the.line (reverse r);
    all = refl;
  }
  | inr other ↦ elim (or_cases (is_horizontal_whitespace c && standing r) _ other) [
    | inl blank ↦
        let parts = and_parts (is_horizontal_whitespace c) (standing r) blank in
        let before = is-standing r parts.1 in
        record {
          edge = before.edge;
          blanks = before.blanks ++ (c ∷ []);
          whole = sym (append_assoc before.edge before.blanks (c ∷ []))
              ∙ (ap (λ (u : List ℕ). u ++ (c ∷ [])) before.whole ∙ sym (reverse-append (c ∷ []) r));
          is = before.is;
          all = list_all-append is_horizontal_whitespace before.blanks (c ∷ []) ∙ rw (before.all, parts.0) refl;
        }
    | inr three ↦
        let parts = and_parts (begins (fence 3) (c ∷ r)) _ three in
        subst (λ (u : Chars). IsStanding (reverse u)) (sym (begins-whole (fence 3) (c ∷ r) parts.0)) record {
          edge = reverse (drop 2 r) ++ fence 3;
          blanks = [];
          whole = append-nil _ ∙ sym (reverse-append (fence 3) (drop 2 r));
          is = the.dashes (reverse (drop 2 r))
              (λ v f. either-way (begins (fence 1) (drop 2 r))
              (ap (begins (fence 1)) (sym (reverse-reverse (drop 2 r)) ∙ (ap reverse f ∙ reverse-append v (codes "-"))))
              (not-true _ parts.1));
          all = refl;
        }
  ]
]

-- Conversely, the test passes wherever the language allows lone dashes.
edge-stands : {u : Chars} → IsEdge u → standing (reverse u) ≡ true
edge-stands the.front = refl
edge-stands (the.line u) = ap standing (reverse-append u (codes "\n"))
edge-stands (the.dashes u fresh) = ap standing (reverse-append u (fence 3)) ∙ ap not (by_last (reverse u) refl)
  where
    by_last : (r : List ℕ) → reverse u ≡ r → begins (fence 1) r ≡ false
    by_last [] e = refl
    by_last (c ∷ r) e =
        false_from_ne_true _
        (λ t. fresh (reverse r)
        (sym (reverse-reverse u)
        ∙ (ap reverse e ∙ (reverse-append (c ∷ []) r
        ∙ ap (λ (x : ℕ). reverse r ++ (x ∷ [])) (eqb-true c 45 (and_parts (c == 45) true t).0)))))

blanks-stand : (w r : List ℕ) → AreAll is_horizontal_whitespace w → standing r ≡ true → standing (reverse w ++ r) ≡ true
blanks-stand [] r all e = e
blanks-stand (c ∷ w) r all e =
    grind (
      arith,
      common_steps,
      and_parts,
      reverse-append,
      append_assoc,
      blanks-stand w (c ∷ r) (and_parts (is_horizontal_whitespace c) (list_all is_horizontal_whitespace w) all).1
          (by_either (c == 10) (λ f. rw f refl)
          (λ f. rw (f, (and_parts (is_horizontal_whitespace c) (list_all is_horizontal_whitespace w) all).0, e) refl)),
    )

pub lone-decided : (u v : Chars) → IsLone u v → lone_at [] (length u) (u ++ v) ≡ true
lone-decided u v w0 =
    search (arith, reverse-append, blanks-stand, edge-stands, lone_at-text, take-append_seam, drop-append_seam)

pub decided-lone : (s : Chars) (i : ℕ) → lone_at [] i s ≡ true → IsLone (take i s) (drop i s)
decided-lone s i e =
    let parts = and_parts (standing (reverse (take i s))) (begins (fence 3) (drop i s)) (sym (lone_at-text s i) ∙ e) in
    let at = is-standing (reverse (take i s)) parts.0 in
    subst (λ (u : Chars). IsLone u (drop i s)) (at.whole ∙ reverse-reverse (take i s))
    (the.lone at.edge at.blanks (drop i s) at.is at.all parts.1)

-- ---- the search finds the first lone dashes

-- Holds at each offset of the search: `blank` is the result of the test for the text before, and no three dashes start
-- one or two characters before.
pub record IsAt (blank : Bool) (r s : List ℕ) : Type 0 where
  decided : standing r ≡ blank
  fresh : blank ≡ false → begins (fence 3) s ≡ true → begins (fence 1) r ≡ false
  one : begins (fence 1) r ≡ true → begins (fence 1) (drop 1 r) ≡ false → begins (fence 2) s ≡ false
  two : begins (fence 2) r ≡ true → begins (fence 1) (drop 2 r) ≡ false → begins (fence 1) s ≡ false

fewer : (n : ℕ) (s : List ℕ) → begins (fence (suc n)) s ≡ true → begins (fence n) s ≡ true
fewer zero s e = refl
fewer (suc n) [] e = e
fewer (suc n) (c ∷ s) e = let parts = and_parts (c == 45) (begins (fence (suc n)) s) e in
    rw (parts.0, fewer n s parts.1) refl

-- The invariant still holds after a character at which no three dashes start.
over : (blank : Bool) (c : ℕ) (r s : List ℕ) → begins (fence 3) (c ∷ s) ≡ false → IsAt blank r (c ∷ s)
    → IsAt (blank_past blank c) (c ∷ r) s
over blank c r s none at = record {
  decided = let third : (begins (fence 3) (c ∷ r) && not (begins (fence 1) (drop 2 r))) ≡ false =
      false_from_ne_true _ (λ e.
      let p = and_parts (begins (fence 3) (c ∷ r)) _ e in
      let q = and_parts (c == 45) (begins (fence 2) r) p.0 in
      either-way (begins (fence 1) (c ∷ s)) (rw q.0 refl) (at.two q.1 (not-true _ p.1))) in
      by_either (c == 10) (λ f. rw f refl)
      (λ f. rw (f, third, at.decided)
      (by_either (is_horizontal_whitespace c && blank) (λ g. rw g refl) (λ g. rw g refl)));
  fresh = λ e three. by_either (c == 45)
      (λ f. absurd (either-way (begins (fence 3) (c ∷ s)) (rw (f, fewer 2 s three) refl) none)) (λ f. rw f refl);
  one = λ e fresh. let is = (and_parts (c == 45) true e).0 in
      false_from_ne_true _ (λ f. either-way (begins (fence 3) (c ∷ s)) (rw (is, f) refl) none);
  two = λ e fresh. let p = and_parts (c == 45) (begins (fence 1) r) e in
      false_from_ne_true _ (λ f. either-way (begins (fence 2) (c ∷ s)) (rw (p.0, f) refl) (at.one p.1 fresh));
}

-- The search can skip three dashes that are not lone.
past_three : (r s : List ℕ) → standing r ≡ false → begins (fence 1) r ≡ false
    → first_lone true 0 s ≡ least (λ i. lone_at (45 ∷ 45 ∷ 45 ∷ r) i s) (length s)
    → first_lone false 0 (fence 3 ++ s) ≡ least (λ i. lone_at r i (fence 3 ++ s)) (length (fence 3 ++ s))
past_three r s decided fresh e = grind (arith, common_steps, false_from_ne_true, fewer)

lone-least : (fuel : ℕ) (blank : Bool) (r s : List ℕ) → length s ≤ fuel → IsAt blank r s
    → first_lone blank 0 s ≡ least (λ i. lone_at r i s) (length s)
lone-least fuel blank r [] le at = refl
lone-least zero blank r (c ∷ s) le at = absurd (omega arith)
lone-least (suc fuel) blank r (c ∷ s) le at =
    by_either (begins (fence 3) (c ∷ s))
    (λ e. three blank e at (lone-least fuel true (45 ∷ 45 ∷ 45 ∷ r) (drop 2 s) (omega (arith, length-drop 2 s))))
    (λ e. rw (e, and-false (standing r))
    (ap one_more (lone-least fuel (blank_past blank c) (c ∷ r) s (omega arith) (over blank c r s e at))))
  where
    three : (blank : Bool) → begins (fence 3) (c ∷ s) ≡ true → IsAt blank r (c ∷ s)
        → (IsAt true (45 ∷ 45 ∷ 45 ∷ r) (drop 2 s) → first_lone true 0 (drop 2 s) ≡
        least (λ i. lone_at (45 ∷ 45 ∷ 45 ∷ r) i (drop 2 s)) (length (drop 2 s)))
        → first_lone blank 0 (c ∷ s) ≡ least (λ i. lone_at r i (c ∷ s)) (length (c ∷ s))
    three true e at ih = rw (e, at.decided) refl
    three false e at ih =
        let fresh : begins (fence 1) r ≡ false = at.fresh refl e in
        subst (λ (t : List ℕ). first_lone false 0 t ≡ least (λ i. lone_at r i t) (length t))
        (sym (begins-whole (fence 3) (c ∷ s) e))
        (past_three r (drop 2 s) at.decided fresh (ih record {
          decided = rw fresh refl;
          fresh = λ f t. absurd (true≢false f);
          one = λ f t. absurd (true≢false t);
          two = λ f t. absurd (true≢false t);
        }))

pub lone-first : (s : List ℕ) → first_lone true 0 s ≡ least (λ i. lone_at [] i s) (length s)
lone-first s = lone-least (length s) true [] s (omega arith) record {
  decided = refl;
  fresh = λ f t. absurd (true≢false f);
  one = λ f t. absurd (true≢false (sym f));
  two = λ f t. absurd (true≢false (sym f));
}
