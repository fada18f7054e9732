-- The end of a frontmatter is the end that the language defines, both in characters and in bytes.
use Rattle.std.proofs.Common.{◌≡◌, ℕ, zero, suc, ◌+◌, ◌≤◌, ◌<◌, ◌==◌, ◌&&◌, nat_lt, not, get_or, inl, inr, Bool, true}
use Rattle.std.proofs.Common.{false, List, [], ◌∷◌, ◌++◌, length, take, drop, codes, refl, sym, ap, ◌∙◌, subst, arith}
use Rattle.std.proofs.Common.{append_assoc, length-append, length-take, take-append-drop, Option, Some, None}
use Rattle.std.proofs.Math.Seq.{take-append_seam, drop-append_seam}
use Rattle.std.proofs.lemmas.Bool.{and_parts, cases_lt, eqb-true, false_from_ne_true, ltb-true, lt-ltb, not-true}
use Rattle.std.proofs.lemmas.List.{append-nil}
use Rattle.std.proofs.lemmas.Str.{encode_ascii, encodes-append, inside_one, length-encode, len_utf8_bounds}
use Rattle.std.specs.{Char.{encode_utf8}, List.{list_all}, Str.{encode_utf8_all}}
use Rattle.std.proofs.lemmas.Grind.{common_steps}
use Rattle.rustc_lexer.specs.Classes.{is_inline, bytes, Chars, AreAll, NextIsNot}
use Rattle.rustc_lexer.specs.FrontmatterGrammar as the
use Rattle.rustc_lexer.specs.FrontmatterGrammar.{fence, IsFirstPositionOf, IsNowhere, IsAt, IsLone, endings}
use Rattle.rustc_lexer.specs.FrontmatterGrammar.{IsBodyBefore}
use Rattle.rustc_lexer.specs.model.Frontmatter.{first, line_end, blank_past, first_lone, end_by, closing_end}
use Rattle.rustc_lexer.specs.model.Least.{one_more, more, least}
use Rattle.rustc_lexer.specs.model.Scan.{begins, bytes_of, run_len}
use Rattle.rustc_lexer.specs.laws.CharSteps.{bytes_of-suc}
use Rattle.rustc_lexer.specs.laws.Choice.{by_either, by_found}
use Rattle.rustc_lexer.specs.laws.Fences.{begins-whole}
use Rattle.rustc_lexer.specs.laws.LanguageRuns.{run_len-here, run-stops, either-way}
use Rattle.rustc_lexer.specs.laws.Least.{offset-on, more-zero, one_more-more}
use Rattle.rustc_lexer.specs.laws.LanguageLone.{lone_at, lone-decided, decided-lone, lone-first}
use Rattle.rustc_lexer.specs.laws.Reach.{begins-length, run_all, run_len-in, least-is, least-none, least-some}
use Rattle.rustc_lexer.specs.laws.Reach.{none-least}

-- ---- searches in bytes

abbrev is_ascii : ℕ → Bool
is_ascii c = nat_lt c 128

-- Whether the pattern starts with a newline and is ASCII.
abbrev is_pattern : List ℕ → Bool
is_pattern pattern = begins (codes "\n") pattern && list_all is_ascii pattern

abbrev are_patterns : List (Chars × Bool) → Bool
are_patterns es = list_all (λ (ending : Chars × Bool). is_pattern ending.0) es

pub endings-patterns : (n : ℕ) → are_patterns (endings n) ≡ true
endings-patterns n = rw (fence-ascii n) refl
  where
    fence-ascii : (n : ℕ) → list_all is_ascii (fence n) ≡ true
    fence-ascii zero = refl
    fence-ascii (suc n) = fence-ascii n

abbrev is_high : ℕ → Bool
is_high b = not (nat_lt b 128)

points-all : (p : ℕ → Bool) (s : List ℕ) → ((n : ℕ) → n < length s → p (get_or s n 0) ≡ true) → list_all p s ≡ true
points-all p [] each = refl
points-all p (c ∷ s) each = rw (each 0 (omega arith), points-all p s (λ n lt. each (suc n) (omega arith))) refl

-- No byte of a character outside ASCII is ASCII.
high-bytes : (c : ℕ) → 128 ≤ c → AreAll is_high (encode_utf8 c)
high-bytes c le = points-all is_high (encode_utf8 c) (λ k lt. by_either (is_ascii (get_or (encode_utf8 c) k 0))
    (λ e. absurd (let same : c ≡ get_or (encode_utf8 c) k 0 = inside_one c [] (encode_utf8 c) k
    (sym (append-nil (encode_utf8 c))) lt (ltb-true _ 128 e) in
    omega (arith, ltb-true (get_or (encode_utf8 c) k 0) 128 e)))
    (λ e. rw e refl))

-- Holds if the text starts with one ASCII byte, or with bytes that are not ASCII.
data Encoded (c : ℕ) (s : Chars) : Type 0 where
  one : c < 128 → encode_utf8_all (c ∷ s) ≡ c ∷ encode_utf8_all s → Encoded c s
  high : 128 ≤ c → AreAll is_high (encode_utf8 c) → 0 < length (encode_utf8 c) → Encoded c s

encoded : (c : ℕ) (s : Chars) → Encoded c s
encoded c s = elim (cases_lt c 128) [
  | inl lt ↦ one lt (ap (λ (w : List ℕ). w ++ encode_utf8_all s) (encode_ascii c lt))
  | inr ge ↦ high ge (high-bytes c ge) (omega (arith, length-encode c, len_utf8_bounds c))
]

high-other : (b d : ℕ) → is_high b ≡ true → d < 128 → (b == d) ≡ false
high-other b d e lt =
    by_either (b == d)
    (λ f. absurd (either-way (is_ascii b) (lt-ltb b 128 (omega (arith, eqb-true b d f))) (not-true (is_ascii b) e)))
    (λ f. f)

begins-high : (d : ℕ) (ds w s : List ℕ) → AreAll is_high w → 0 < length w → is_ascii d ≡ true
    → begins (d ∷ ds) (w ++ s) ≡ false
begins-high d ds [] s all some f = absurd (omega arith)
begins-high d ds (b ∷ w) s all some f =
    rw (high-other b d (and_parts (is_high b) (list_all is_high w) all).0 (ltb-true d 128 f)) refl

ge-high : (c : ℕ) → 128 ≤ c → is_high c ≡ true
ge-high c le = by_either (is_ascii c) (λ e. absurd (let lt = ltb-true c 128 e in omega arith)) (λ e. rw e refl)

-- A search skips bytes that are not ASCII.
first-high : (d : ℕ) (ds w s : List ℕ) → is_ascii d ≡ true → AreAll is_high w
    → first (d ∷ ds) (w ++ s) ≡ more (length w) (first (d ∷ ds) s)
first-high d ds [] s f all = more-zero (first (d ∷ ds) s)
first-high d ds (b ∷ w) s f all =
    grind (
      arith,
      common_steps,
      begins-high d ds (b ∷ w) s all (omega arith) f,
      offset-on,
      one_more-more,
      first-high d ds w s f (and_parts (is_high b) (list_all is_high w) all).1,
    )

lone-step : (blank : Bool) (b : ℕ) (s : List ℕ) → is_high b ≡ true
    → first_lone blank 0 (b ∷ s) ≡ one_more (first_lone false 0 s)
lone-step blank b s e =
    rw (
      high-other b 45 e (omega arith),
      high-other b 10 e (omega arith),
      high-other b 9 e (omega arith),
      high-other b 32 e (omega arith),
    ) refl

lone-high : (blank : Bool) (w s : List ℕ) → AreAll is_high w → 0 < length w → first_lone blank 0 (w ++ s) ≡
    more (length w) (first_lone false 0 s)
lone-high blank [] s all some = absurd (omega arith)
lone-high blank (b ∷ []) s all some = lone-step blank b s (and_parts (is_high b) true all).0
    ∙ (ap one_more (more-zero _) ∙ one_more-more 0 (first_lone false 0 s))
lone-high blank (b ∷ a ∷ w) s all some =
    grind (
      arith,
      common_steps,
      and_parts,
      lone-step,
      one_more-more,
      lone-high false (a ∷ w) s (and_parts (is_high b) (list_all is_high (a ∷ w)) all).1 (omega arith),
    )

run-high : (w s : List ℕ) → AreAll is_high w → run_len is_inline (w ++ s) ≡ length w + run_len is_inline s
run-high [] s all = omega arith
run-high (b ∷ w) s all = let parts = and_parts (is_high b) (list_all is_high w) all in
    rw (high-other b 10 parts.0 (omega arith)) (omega (arith, run-high w s parts.1))

-- Returns the result of a search in characters as an offset in bytes.
abbrev in_bytes : Chars → Option ℕ → Option ℕ
in_bytes s None = None
in_bytes s (Some k) = Some (bytes_of k s)

in_bytes-suc : (c : ℕ) (s : Chars) (o : Option ℕ) → in_bytes (c ∷ s) (one_more o) ≡
    more (length (encode_utf8 c)) (in_bytes s o)
in_bytes-suc c s o = grind (arith, common_steps, bytes_of-suc)

in_bytes-one : (c : ℕ) (s : Chars) (o : Option ℕ) → c < 128 → in_bytes (c ∷ s) (one_more o) ≡ one_more (in_bytes s o)
in_bytes-one c s o w3 = grind (arith, common_steps, bytes_of-suc, encode_ascii)

pub begins-encode : (pattern s : List ℕ) → list_all is_ascii pattern ≡ true → begins pattern (encode_utf8_all s) ≡
    begins pattern s
begins-encode [] s ascii = refl
begins-encode (d ∷ ds) [] ascii = refl
begins-encode (d ∷ ds) (c ∷ s) ascii =
    grind (
      arith,
      common_steps,
      and_parts,
      encoded,
      begins-high,
      high-other,
      ge-high,
      ltb-true,
      begins-encode ds s (and_parts (is_ascii d) (list_all is_ascii ds) ascii).1,
    )

first-encode : (d : ℕ) (ds s : List ℕ) → list_all is_ascii (d ∷ ds) ≡ true → first (d ∷ ds) (encode_utf8_all s) ≡
    in_bytes s (first (d ∷ ds) s)
first-encode d ds [] ascii = refl
first-encode d ds (c ∷ s) ascii =
    let parts = and_parts (is_ascii d) (list_all is_ascii ds) ascii in
    elim (encoded c s) [
      | one lt e ↦ rw (e, begins-encode ds s parts.1, first-encode d ds s ascii)
          (by_either ((c == d) && begins ds s) (λ t. rw t refl)
          (λ t. rw t (sym (in_bytes-one c s (first (d ∷ ds) s) lt))))
      | high ge all some ↦
          rw (
            first-high d ds (encode_utf8 c) (encode_utf8_all s) parts.0 all,
            first-encode d ds s ascii,
            high-other c d (ge-high c ge) (ltb-true d 128 parts.0),
          ) (sym (in_bytes-suc c s (first (d ∷ ds) s)))
    ]

lone-encode : (blank : Bool) (skip : ℕ) (s : List ℕ) → begins (fence skip) s ≡ true
    → first_lone blank skip (encode_utf8_all s) ≡ in_bytes s (first_lone blank skip s)
lone-encode blank skip [] f = refl
lone-encode blank (suc skip) (c ∷ s) f =
    grind (
      arith,
      common_steps,
      and_parts,
      eqb-true,
      encode_ascii,
      in_bytes-one,
      lone-encode blank skip s (and_parts (c == 45) (begins (fence skip) s) f).1,
    )
lone-encode blank zero (c ∷ s) f = elim (encoded c s) [
  | one lt e ↦ rw (e, begins-encode (fence 2) s refl) (by_either ((c == 45) && begins (fence 2) s)
      (λ t. by_either blank (λ b. rw (t, b) refl)
      (λ b. rw (t, b, lone-encode true 2 s (and_parts (c == 45) (begins (fence 2) s) t).1)
      (sym (in_bytes-one c s (first_lone true 2 s) lt))))
      (λ t. rw (t, lone-encode (blank_past blank c) 0 s refl)
      (sym (in_bytes-one c s (first_lone (blank_past blank c) 0 s) lt))))
  | high ge all some ↦ rw (
    lone-high blank (encode_utf8 c) (encode_utf8_all s) all some,
    lone-encode false 0 s refl,
    lone-step blank c s (ge-high c ge),
  ) (sym (in_bytes-suc c s (first_lone false 0 s)))
]

run-encode : (s : List ℕ) → run_len is_inline (encode_utf8_all s) ≡ bytes_of (run_len is_inline s) s
run-encode [] = refl
run-encode (c ∷ s) =
    grind (
      arith,
      common_steps,
      encoded,
      encode_ascii,
      bytes_of-suc,
      run-high,
      run_len-in,
      high-other,
      ge-high,
      run-encode s,
    )

-- ---- the first match

-- Holds if `test` decides at which offsets there is a match, no match is at the end of the text, and the search in
-- bytes finds the first match.
record Tells (IsSuch : Chars → Chars → Type 0) (test : Chars → ℕ → Bool) (search_for : List ℕ → Option ℕ) : Type 0 where
  decided : (u v : Chars) → IsSuch u v → test (u ++ v) (length u) ≡ true
  some : (u v : Chars) → IsSuch u v → 0 < length v
  is : (s : Chars) (i : ℕ) → test s i ≡ true → IsSuch (take i s) (drop i s)
  found : (s : Chars) → search_for (encode_utf8_all s) ≡ in_bytes s (least (test s) (length s))

module _ {IsSuch : Chars → Chars → Type 0} {test : Chars → ℕ → Bool} {search_for : List ℕ → Option ℕ}
    (tells : Tells IsSuch test search_for) where
  decided-at : (s x y : Chars) → x ++ y ≡ s → IsSuch x y → test s (length x) ≡ true
  decided-at s x y e such = subst (λ (t : Chars). test t (length x) ≡ true) e (tells.decided x y such)

  first-offset : (s : Chars) (k : ℕ) → least (test s) (length s) ≡ Some k
      → IsFirstPositionOf IsSuch (take k s) (drop k s)
  first-offset s k e = grind (arith, common_steps, least-some, cases_lt, decided-at, take-append-drop, length-take)

  no-offset : (s : Chars) → least (test s) (length s) ≡ None → IsNowhere IsSuch s
  no-offset s e x y f such =
      either-way (test s (length x)) (decided-at s x y f such)
      (none-least (test s) (length s) e (length x)
      (omega (arith, tells.some x y such, length-append x y, ap length f)))

  first-read : (u v : Chars) → IsFirstPositionOf IsSuch u v → search_for (encode_utf8_all (u ++ v)) ≡ Some (bytes u)
  first-read u v at =
      tells.found (u ++ v) ∙ ap (in_bytes (u ++ v)) (least-is (test (u ++ v)) (length (u ++ v)) (length u) record {
        below = omega (arith, length-append u v, tells.some u v at.here);
        here = tells.decided u v at.here;
        before = λ i lt. false_from_ne_true _
            (λ e. let le = at.first (take i (u ++ v)) (drop i (u ++ v)) (take-append-drop i (u ++ v))
            (tells.is (u ++ v) i e) in omega (arith, length-take i (u ++ v)));
      }) ∙ ap (λ (w : Chars). Some (bytes w)) (take-append_seam u v)

  nowhere-read : (s : Chars) → IsNowhere IsSuch s → search_for (encode_utf8_all s) ≡ None
  nowhere-read s none =
      tells.found s ∙ ap (in_bytes s)
      (least-none (test s) (length s)
      (λ i lt. false_from_ne_true _ (λ e. none (take i s) (drop i s) (take-append-drop i s) (tells.is s i e))))

pattern-tells : (pattern : List ℕ) → is_pattern pattern ≡ true
    → Tells (IsAt pattern) (λ s offset. begins pattern (drop offset s)) (first pattern)
pattern-tells pattern w1 = grind (arith, common_steps, drop-append_seam, begins-length, first-encode, and_parts)

lone-tells : Tells IsLone (λ s i. lone_at [] i s) (first_lone true 0)
lone-tells = grind (arith, common_steps, lone-decided, decided-lone, begins-length, lone-encode, lone-first)

-- ---- the searches find the matches of the language

-- The line of an offset ends before the text that stops it.
at-line : (u line next : Chars) → AreAll is_inline line → NextIsNot is_inline next
    → line_end (bytes u) (encode_utf8_all (u ++ (line ++ next))) ≡ bytes (u ++ line)
at-line u line next all stop =
    grind (
      arith,
      common_steps,
      encodes-append,
      drop-append_seam,
      run-encode,
      run_len-here is_inline line next all stop,
      take-append_seam line next,
      length-append,
    )

past-line : (u line next : Chars) → AreAll is_inline line → NextIsNot is_inline next
    → line_end (bytes u + 1) (encode_utf8_all (u ++ (10 ∷ line ++ next))) ≡ bytes (u ++ (10 ∷ line))
past-line u line next all stop =
    grind (
      arith,
      common_steps,
      append_assoc u (codes "\n"),
      at-line (u ++ codes "\n") line next all stop,
      encodes-append,
      encode_ascii,
      length-append,
    )

end-read : {next w : Chars} {es : List (Chars × Bool)} → IsBodyBefore next es w → are_patterns es ≡ true
    → end_by es (encode_utf8_all (w ++ next)) ≡ bytes w
end-read {next} (the.with_line pattern u line {others} is all stop) good =
    let parts = and_parts (is_pattern pattern) (are_patterns others) good in
    ap (λ (s : Chars). end_by ((pattern, true) ∷ others) (encode_utf8_all s)) (append_assoc u (10 ∷ line) next)
    ∙ (rw (first-read (pattern-tells pattern parts.0) u (10 ∷ line ++ next) is) (past-line u line next all stop))
end-read {next} (the.before_line pattern w {others} is) good =
    rw (first-read (pattern-tells pattern (and_parts (is_pattern pattern) (are_patterns others) good).0) w next is) refl
end-read {next} (the.other pattern {takes_line} {w} {others} none rest) good =
    let parts = and_parts (is_pattern pattern) (are_patterns others) good in
    rw (nowhere-read (pattern-tells pattern parts.0) (w ++ next) none) (end-read rest parts.1)
end-read {next} (the.lone_dashes u line is all stop) good =
    ap (λ (s : Chars). end_by [] (encode_utf8_all s)) (append_assoc u line next)
    ∙ (rw (first-read lone-tells u (line ++ next) is) (at-line u line next all stop))
end-read {next} (the.all {w} ends none) good = rw (ends, append-nil w, nowhere-read lone-tells w none) refl

pub body-read : (n : ℕ) {body next : Chars} → IsBodyBefore next (endings n) body
    → closing_end n (encode_utf8_all (body ++ next)) ≡ bytes body
unfolding closing_end
body-read n is = end-read is (endings-patterns n)

-- ---- each text has a body of a frontmatter

-- A text consists of its first line and the text after it.
record Lined (s : Chars) : Type 0 where
  line : Chars
  next : Chars
  whole : line ++ next ≡ s
  inline : AreAll is_inline line
  stop : NextIsNot is_inline next

lined : (s : Chars) → Lined s
lined s = let n : ℕ = run_len is_inline s in
    record {
      line = take n s;
      next = drop n s;
      whole = take-append-drop n s;
      inline = run_all is_inline s;
      stop = run-stops is_inline s;
    }

pub record Body (es : List (Chars × Bool)) (s : Chars) : Type 0 where
  pub body : Chars
  pub next : Chars
  pub whole : body ++ next ≡ s
  pub is : IsBodyBefore next es body

newline-first : (pattern s : Chars) → is_pattern pattern ≡ true → begins pattern s ≡ true → s ≡ 10 ∷ drop 1 s
newline-first pattern s w0 w1 = grind (arith, common_steps, begins-whole, eqb-true, and_parts)

pub body-at : (es : List (Chars × Bool)) (s : Chars) → are_patterns es ≡ true → Body es s
body-at [] s good = by_found (least (λ i. lone_at [] i s) (length s))
    (λ j e.
    let l = lined (drop j s) in
    record {
      body = take j s ++ l.line;
      next = l.next;
      whole = append_assoc (take j s) l.line l.next
          ∙ (ap (λ (t : Chars). take j s ++ t) l.whole ∙ take-append-drop j s);
      is = the.lone_dashes (take j s) l.line
          (subst (IsFirstPositionOf IsLone (take j s)) (sym l.whole) (first-offset lone-tells s j e)) l.inline l.stop;
    })
    (λ e. record { body = s; next = []; whole = append-nil s; is = the.all refl (no-offset lone-tells s e) })
body-at ((pattern, takes_line) ∷ others) s good =
    let parts = and_parts (is_pattern pattern) (are_patterns others) good in
    by_found (first pattern s)
    (λ j e. by_kind takes_line j (first-offset (pattern-tells pattern parts.0) s j e) parts.0)
    (λ e. let rest = body-at others s parts.1 in record {
      body = rest.body;
      next = rest.next;
      whole = rest.whole;
      is = the.other pattern
          (subst (IsNowhere (IsAt pattern)) (sym rest.whole) (no-offset (pattern-tells pattern parts.0) s e)) rest.is;
    })
  where
    by_kind : (b : Bool) (j : ℕ) → IsFirstPositionOf (IsAt pattern) (take j s) (drop j s) → is_pattern pattern ≡ true
        → Body ((pattern, b) ∷ others) s
    by_kind false j at is =
        record {
          body = take j s;
          next = drop j s;
          whole = take-append-drop j s;
          is = the.before_line pattern (take j s) at;
        }
    by_kind true j at is =
        let l = lined (drop 1 (drop j s)) in
        let back : drop j s ≡ 10 ∷ l.line ++ l.next = newline-first pattern (drop j s) is at.here
        ∙ ap (λ (t : Chars). 10 ∷ t) (sym l.whole) in
        record {
          body = take j s ++ (10 ∷ l.line);
          next = l.next;
          whole = append_assoc (take j s) (10 ∷ l.line) l.next
              ∙ (ap (λ (t : Chars). take j s ++ t) (sym back) ∙ take-append-drop j s);
          is = the.with_line pattern (take j s) l.line (subst (IsFirstPositionOf (IsAt pattern) (take j s)) back at)
              l.inline l.stop;
        }
