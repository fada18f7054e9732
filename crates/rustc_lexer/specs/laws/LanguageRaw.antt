-- Raw strings: the scanner reads exactly the language.
use Rattle.std.proofs.Common.{◌≡◌, ℕ, zero, suc, ◌+◌, ◌≤◌, ◌==◌, nat_le, true, false, true≢false, List, [], ◌∷◌, ◌++◌}
use Rattle.std.proofs.Common.{length, take, drop, codes, refl, sym, ap, ◌∙◌, subst, arith, append_assoc, length-append}
use Rattle.std.proofs.Common.{Option, Some, None, Err}
use Rattle.std.proofs.Math.Seq.{drop-append_seam}
use Rattle.std.proofs.lemmas.Bool.{and_parts, eqb-true, or_parts, or_from, leb-true, leb-false, le-leb, lt-leb}
use Rattle.std.proofs.lemmas.Bool.{false_from_ne_true}
use Rattle.std.proofs.lemmas.{List.{append-nil}, Grind.{common_steps}}
use Rattle.rustc_lexer.specs.Classes.{is_among, NextIs, NextIsNot}
use Rattle.rustc_lexer.specs.laws.Choice.{by_either}
use Rattle.rustc_lexer.specs.laws.LanguageRuns.{parted, run-stops}
use Rattle.rustc_lexer.specs.laws.Reach.{run_len-none}
use Rattle.rustc_lexer.specs.{InvalidStarter, NoTerminator}
use Rattle.rustc_lexer.specs.LiteralGrammar as lit
use Rattle.rustc_lexer.specs.LiteralGrammar.{hashes, NoQuoteWith, IsRaw}
use Rattle.rustc_lexer.specs.model.Least.{one_more}
use Rattle.rustc_lexer.specs.model.Lexeme.{opens_raw}
use Rattle.rustc_lexer.specs.model.Raw.{is_hash, is_quote, hash_run, closes, close, most_hashes, best_quote, quote_end}
use Rattle.rustc_lexer.specs.model.Raw.{hash_count, raw_starter, raw_read, accepted}

-- ---- hashes

pub guard-length : (n : ℕ) → length (hashes n) ≡ n
guard-length zero = refl
guard-length (suc n) = ap suc (guard-length n)

pub hash_run-hashes : (n : ℕ) (v : List ℕ) → hash_run (hashes n ++ v) ≡ n + hash_run v
hash_run-hashes zero v = omega arith
hash_run-hashes (suc n) v = omega (arith, hash_run-hashes n v)

-- A run of n hashes has length n, if no further hash follows.
pub guard-hashes : (n : ℕ) (v : List ℕ) → NextIsNot is_hash v → hash_run (hashes n ++ v) ≡ n
guard-hashes n v stop = omega (arith, hash_run-hashes n v, run_len-none is_hash v stop)

-- A text with at least n hashes in front starts with n hashes.
pub split-hashes : (n : ℕ) (s : List ℕ) → n ≤ hash_run s → s ≡ hashes n ++ drop n s
split-hashes zero s le = refl
split-hashes (suc n) [] le = absurd (omega arith)
split-hashes (suc n) (c ∷ s) le = by_either (is_hash c)
    (λ e.
    let more : hash_run (c ∷ s) ≡ suc (hash_run s) = rw e refl in
    ap (λ (x : ℕ). x ∷ s) (eqb-true c 35 e) ∙ ap (λ (xs : List ℕ). 35 ∷ xs) (split-hashes n s (omega arith)))
    (λ e. let none : hash_run (c ∷ s) ≡ 0 = rw e refl in absurd (omega arith))

-- A run of hashes ends before a quote.
pub hash_run-before : (w z : List ℕ) → hash_run (w ++ 34 ∷ z) ≡ hash_run w
hash_run-before [] z = refl
hash_run-before (c ∷ w) z = grind (arith, common_steps, hash_run-before w z)

-- ---- the end of a raw string

closes-here : (n : ℕ) (v : List ℕ) → closes n (34 ∷ hashes n ++ v) ≡ true
closes-here n v = le-leb n (hash_run (hashes n ++ v)) (omega (arith, hash_run-hashes n v))

pub closes-quote : (n c : ℕ) (s : List ℕ) → closes n (c ∷ s) ≡ true → (c ≡ 34) × (n ≤ hash_run s)
closes-quote n c s e = let parts = and_parts (is_quote c) (nat_le n (hash_run s)) e in
    (eqb-true c 34 parts.0, leb-true n (hash_run s) parts.1)

pub lacks-rest : (n c : ℕ) (w : List ℕ) → NoQuoteWith n (c ∷ w) → NoQuoteWith n w
lacks-rest n c w lacks u v e = lacks (c ∷ u) v (ap (λ (xs : List ℕ). c ∷ xs) e)

pub lacks-front : (n c : ℕ) (w : List ℕ) → NoQuoteWith n (c ∷ w) → n ≤ hash_run w → c ≡ 34 → ⊥
lacks-front n c w lacks le e =
    lacks [] (drop n w) (ap (λ (x : ℕ). x ∷ w) e ∙ ap (λ (xs : List ℕ). 34 ∷ xs) (split-hashes n w le))

-- The first quote with its hashes is found.
pub close-read : (n : ℕ) (w next : List ℕ) → NoQuoteWith n w → close n (w ++ (34 ∷ hashes n ++ next)) ≡ Some (length w)
close-read n [] next lacks = rw (closes-here n next) refl
close-read n (c ∷ w) next lacks =
    let open_here : closes n (c ∷ w ++ (34 ∷ hashes n ++ next)) ≡ false =
    false_from_ne_true (closes n (c ∷ w ++ (34 ∷ hashes n ++ next))) (λ e.
    let parts = closes-quote n c (w ++ (34 ∷ hashes n ++ next)) e in
    lacks-front n c w lacks (omega (arith, parts.1, hash_run-before w (hashes n ++ next))) parts.0) in
    rw open_here (ap one_more (close-read n w next (lacks-rest n c w lacks)))

pub unclosed-read : (n : ℕ) (w : List ℕ) → NoQuoteWith n w → close n w ≡ None
unclosed-read n [] lacks = refl
unclosed-read n (c ∷ w) lacks =
    let open_here : closes n (c ∷ w) ≡ false = false_from_ne_true (closes n (c ∷ w)) (λ e.
    let parts = closes-quote n c w e in
    lacks-front n c w lacks parts.1 parts.0) in
    rw open_here (ap one_more (unclosed-read n w (lacks-rest n c w lacks)))

-- Holds if the text has a first quote with n hashes, or none.
pub data Closing (n : ℕ) : List ℕ → Type 0 where
  found : (w z : List ℕ) → NoQuoteWith n w → Closing n (w ++ (34 ∷ hashes n ++ z))
  lost : {u : List ℕ} → NoQuoteWith n u → Closing n u

pub nothing-lacks : (n : ℕ) → NoQuoteWith n []
nothing-lacks n u v e = absurd (let no : 0 ≡ length (u ++ (34 ∷ hashes n ++ v)) = ap length e in
    omega (arith, length-append u (34 ∷ hashes n ++ v)))

-- One more character in front adds no quote with its hashes.
lacks-more : (n c : ℕ) (w u rest : List ℕ) → w ++ rest ≡ u → closes n (c ∷ u) ≡ false → NoQuoteWith n w
    → NoQuoteWith n (c ∷ w)
lacks-more n c w u rest whole open_here lacks [] v e = grind (arith, common_steps, append_assoc, closes-here)
lacks-more n c w u rest whole open_here lacks (x ∷ a) v e = lacks a v (cc)

pub closing : (n : ℕ) (u : List ℕ) → Closing n u
closing n [] = lost (nothing-lacks n)
closing n (c ∷ u) = by_either (closes n (c ∷ u))
    (λ e.
    let parts = closes-quote n c u e in
    let text : 34 ∷ hashes n ++ drop n u ≡ c ∷ u = ap (λ (xs : List ℕ). 34 ∷ xs) (sym (split-hashes n u parts.1))
    ∙ ap (λ (x : ℕ). x ∷ u) (sym parts.0) in
    subst (Closing n) text (found [] (drop n u) (nothing-lacks n)))
    (λ e. more e (closing n u))
  where
    more : {u : List ℕ} → closes n (c ∷ u) ≡ false → Closing n u → Closing n (c ∷ u)
    more {u} e (found w z lacks) = found (c ∷ w) z (lacks-more n c w u (34 ∷ hashes n ++ z) refl e lacks)
    more {u} e (lost lacks) = lost (lacks-more n c u u [] (append-nil u) e lacks)

-- ---- the result after the `r`

-- Reading n hashes gives the result of the text after them, if no further hash follows.
past-hashes : (p n : ℕ) (v : List ℕ) → NextIsNot is_hash v
    → raw_read p (hashes n ++ v) ≡ ((raw_starter p n v).0, n + (raw_starter p n v).1)
past-hashes p n v stop = grind (arith, common_steps, guard-length, drop-append_seam, guard-hashes)

pub closed-read : (p n : ℕ) (w next : List ℕ) → NoQuoteWith n w
    → raw_read p (hashes n ++ (34 ∷ w ++ (34 ∷ hashes n ++ next))) ≡ (hash_count n, n + suc (suc (length w) + n))
closed-read p n w next lacks = past-hashes p n (34 ∷ w ++ (34 ∷ hashes n ++ next)) refl
    ∙ rw (close-read n w next lacks) refl

pub open-read : (p n : ℕ) (w : List ℕ) → NoQuoteWith n w
    → raw_read p (hashes n ++ 34 ∷ w) ≡
    (Err (NoTerminator n (most_hashes w) (quote_end (p + suc n) w (best_quote w))), n + suc (length w))
open-read p n w lacks = past-hashes p n (34 ∷ w) refl ∙ rw (unclosed-read n w lacks) refl

pub no_quote-read : (p n c : ℕ) (next : List ℕ) → is_among (codes "\"#") c ≡ false → raw_read p (hashes n ++ c ∷ next) ≡
    (Err (InvalidStarter c), n + 1)
no_quote-read p n c next out =
    let parts = or_parts (c == 34) _ out in
    past-hashes p n (c ∷ next) (or_parts (c == 35) false parts.1).0 ∙ rw parts.0 refl

pub no_more-read : (p n : ℕ) → raw_read p (hashes n) ≡ (Err (InvalidStarter 0), n + 0)
no_more-read p n = ap (raw_read p) (sym (append-nil (hashes n))) ∙ past-hashes p n [] refl

-- Returns the number of hashes of a well-formed string, and the length of the text that is read.
abbrev pub raw_seen : List ℕ → Option ℕ × ℕ
raw_seen s = (accepted (raw_read 0 s).0, (raw_read 0 s).1)

-- A terminated string before a text can be regrouped at its closing quote.
pub whole-text : (n : ℕ) (w next : List ℕ) → (hashes n ++ (34 ∷ w ++ 34 ∷ hashes n)) ++ next ≡
    hashes n ++ (34 ∷ w ++ (34 ∷ hashes n ++ next))
whole-text n w next = append_assoc (hashes n) (34 ∷ w ++ 34 ∷ hashes n) next
    ∙ ap (λ (xs : List ℕ). hashes n ++ 34 ∷ xs) (append_assoc w (34 ∷ hashes n) next)

pub raw-read : {next : List ℕ} {o : Option ℕ} {w : List ℕ} → IsRaw next o w → raw_seen (w ++ next) ≡ (o, length w)
raw-read {next} (lit.closed n w le lacks) =
    grind (arith, common_steps, whole-text n w next, closed-read 0 n w next lacks, le-leb, length-append, guard-length)
raw-read {next} (lit.too_many n w lt lacks) =
    grind (arith, common_steps, whole-text n w next, closed-read 0 n w next lacks, lt-leb, length-append, guard-length)
raw-read {next} (lit.unclosed n w none lacks) =
    grind (arith, common_steps, append-nil, open-read 0 n w lacks, length-append, guard-length)
raw-read {next} (lit.no_quote n c out) =
    grind (arith, common_steps, append_assoc, no_quote-read 0 (suc n) c next out, length-append, guard-length)
raw-read {next} (lit.no_more n none) = grind (arith, common_steps, append-nil, no_more-read 0 (suc n), guard-length)

-- ---- everything that the scanner reads is a raw string

-- A text consists of the hashes at its front and the text after them.
pub record Guarded (s : List ℕ) : Type 0 where
  pub count : ℕ
  pub left : List ℕ
  pub whole : hashes count ++ left ≡ s
  pub stops : NextIsNot is_hash left

pub guarded : (s : List ℕ) → Guarded s
guarded s = record {
  count = hash_run s;
  left = drop (hash_run s) s;
  whole = sym (split-hashes (hash_run s) s (omega arith));
  stops = run-stops is_hash s;
}

-- Lists the possible forms of the text after the `r`.
pub data Shape : List ℕ → Type 0 where
  closed : (n : ℕ) (w next : List ℕ) → NoQuoteWith n w → Shape (hashes n ++ (34 ∷ w ++ (34 ∷ hashes n ++ next)))
  unclosed : (n : ℕ) (w : List ℕ) → NoQuoteWith n w → Shape (hashes n ++ 34 ∷ w)
  no_quote : (n c : ℕ) (next : List ℕ) → is_among (codes "\"#") c ≡ false → Shape (hashes n ++ c ∷ next)
  no_more : (n : ℕ) → Shape (hashes n)

pub shape : (s : List ℕ) → Shape s
shape s = let g = guarded s in subst Shape g.whole (by_left g.count g.left g.stops)
  where
    past_quote : (n : ℕ) {u : List ℕ} → Closing n u → Shape (hashes n ++ 34 ∷ u)
    past_quote n (found w z lacks) = closed n w z lacks
    past_quote n (lost {u} lacks) = unclosed n u lacks

    by_left : (n : ℕ) (v : List ℕ) → NextIsNot is_hash v → Shape (hashes n ++ v)
    by_left n [] stop = subst Shape (sym (append-nil (hashes n))) (no_more n)
    by_left n (c ∷ u) stop = by_either (c == 34)
        (λ e. subst (λ (x : ℕ). Shape (hashes n ++ x ∷ u)) (sym (eqb-true c 34 e)) (past_quote n (closing n u)))
        (λ e. no_quote n c u (or_from (c == 34) _ e (or_from (c == 35) false stop refl)))

abbrev IsRead : List ℕ → Type 0
IsRead s = IsRaw (drop (raw_seen s).1 s) (raw_seen s).0 (take (raw_seen s).1 s)

read-by : {next : List ℕ} {o : Option ℕ} {w s : List ℕ} → IsRaw next o w → w ++ next ≡ s → IsRead s
read-by {next} {o} {w} {s} is e = parted IsRaw w next s o (raw_seen s) e (ap raw_seen (sym e) ∙ raw-read is) is

pub raw-sound : (s : List ℕ) → NextIs opens_raw s → IsRaw (drop (raw_seen s).1 s) (raw_seen s).0 (take (raw_seen s).1 s)
raw-sound s opens = by_shape (shape s) opens
  where
    by_shape : {s : List ℕ} → Shape s → NextIs opens_raw s → IsRead s
    by_shape (closed n w next lacks) opens =
        by_either (nat_le n 255) (λ e. read-by (lit.closed n w (leb-true n 255 e) lacks) (whole-text n w next))
        (λ e. read-by (lit.too_many n w (leb-false n 255 e) lacks) (whole-text n w next))
    by_shape (unclosed n w lacks) opens = read-by (lit.unclosed n w refl lacks) (append-nil (hashes n ++ 34 ∷ w))
    by_shape (no_quote zero c next out) opens = absurd (grind (arith, common_steps, or_parts))
    by_shape (no_quote (suc n) c next out) opens =
        read-by (lit.no_quote n c out) (append_assoc (hashes (suc n)) (c ∷ []) next)
    by_shape (no_more zero) opens = absurd (true≢false (sym opens))
    by_shape (no_more (suc n)) opens = read-by (lit.no_more n refl) (append-nil (hashes (suc n)))
