-- Errors of raw strings: the model finds exactly the error that the language defines.
use Rattle.std.proofs.Common.{◌≡◌, ◌↔◌, ℕ, zero, suc, ◌+◌, ◌<◌, ◌≤◌, ◌==◌, nat_le, Bool, true, false, if◌then◌else◌}
use Rattle.std.proofs.Common.{List, [], ◌∷◌, ◌++◌, length, take, drop, refl, sym, ap, ◌∙◌, subst, arith, append_assoc}
use Rattle.std.proofs.Common.{length-append, Option, Some, None, Result, Ok, Err}
use Rattle.std.proofs.Math.{Nat.{le-max_left, le-max_right, max-le}, Seq.{take-append_seam}}
use Rattle.std.proofs.lemmas.Bool.{eqb-true, leb-true, leb-false, le-leb, lt-leb, false_from_ne_true, eq-eqb}
use Rattle.std.specs.Str.{chars}
use Rattle.std.proofs.lemmas.Grind.{common_steps}
use Rattle.rustc_lexer.specs.{RawStrError, InvalidStarter, NoTerminator, TooManyDelimiters}
use Rattle.rustc_lexer.specs.LiteralGrammar as lit
use Rattle.rustc_lexer.specs.LiteralGrammar.{hashes, NoQuoteWith}
use Rattle.rustc_lexer.specs.LanguageCalls as the
use Rattle.rustc_lexer.specs.LanguageCalls.{IsLikelyEnd, IsRawAnswer}
use Rattle.rustc_lexer.specs.model.Least.{one_more}
use Rattle.rustc_lexer.specs.model.Raw.{hash_run, most_hashes, quote_hashes, quote_with, best_quote, quote_if}
use Rattle.rustc_lexer.specs.model.Raw.{quote_end, raw_read, checked, check_raw}
use Rattle.rustc_lexer.specs.model.Scan.{bytes_of}
use Rattle.rustc_lexer.specs.Classes.{bytes}
use Rattle.rustc_lexer.specs.laws.Choice.{by_either}
use Rattle.rustc_lexer.specs.laws.LanguageRaw.{hash_run-hashes, hash_run-before, lacks-rest, lacks-front, Closing}
use Rattle.rustc_lexer.specs.laws.LanguageRaw.{found, lost, closing, whole-text, closed-read, open-read, no_quote-read}
use Rattle.rustc_lexer.specs.laws.LanguageRaw.{no_more-read, Shape, closed, unclosed, no_quote, no_more, shape}

-- ---- the maximum number of hashes after a quote

few-here : (m c : ℕ) (w : List ℕ) → NoQuoteWith (suc m) (c ∷ w) → quote_hashes (c ∷ w) ≤ m
few-here m c w lacks = grind (arith, common_steps, lacks-front (suc m) c w lacks, eqb-true)

most-few : (m : ℕ) (w : List ℕ) → NoQuoteWith (suc m) w → most_hashes w ≤ m
most-few m [] lacks = omega arith
most-few m (c ∷ w) lacks = max-le (few-here m c w lacks) (most-few m w (lacks-rest (suc m) c w lacks))

most-many : (u v : List ℕ) → hash_run v ≤ most_hashes (u ++ 34 ∷ v)
most-many [] v = omega (arith, le-max_left (hash_run v) (most_hashes v))
most-many (c ∷ u) v =
    omega (arith, most-many u v, le-max_right (quote_hashes (c ∷ u ++ 34 ∷ v)) (most_hashes (u ++ 34 ∷ v)))

lacks-past : (m : ℕ) (w : List ℕ) → most_hashes w < m → NoQuoteWith m w
lacks-past m w lt u v e = absurd (omega (arith, lt, ap most_hashes e, most-many u (hashes m ++ v), hash_run-hashes m v))

-- The first quote with this number of hashes is found.
quote-first : (m : ℕ) (u v : List ℕ) → 0 < m → NoQuoteWith m u → hash_run (hashes m ++ v) ≡ m
    → quote_with m (u ++ (34 ∷ hashes m ++ v)) ≡ Some (length u)
quote-first m [] v some lacks e = let here : (hash_run (hashes m ++ v) == m) ≡ true =
    eq-eqb (hash_run (hashes m ++ v)) m e in rw here refl
quote-first m (c ∷ u) v some lacks e =
    let other : (quote_hashes (c ∷ u ++ (34 ∷ hashes m ++ v)) == m) ≡ false =
    grind (arith, common_steps, hash_run-before u (hashes m ++ v), lacks-front m c u lacks, eqb-true) in
    rw other (ap one_more (quote-first m u v some (lacks-rest m c u lacks) e))

-- The first such quote ends at this offset.
end-at : (start m : ℕ) (u v : List ℕ) → start + bytes_of (suc (length u)) (u ++ (34 ∷ hashes m ++ v)) ≡
    start + bytes (u ++ 34 ∷ [])
end-at start m u v =
    let text : u ++ (34 ∷ hashes m ++ v) ≡ (u ++ 34 ∷ []) ++ (hashes m ++ v) =
    sym (append_assoc u (34 ∷ []) (hashes m ++ v)) in
    let size : suc (length u) ≡ length (u ++ 34 ∷ []) = omega (arith, length-append u (34 ∷ [])) in
    let here : take (suc (length u)) (u ++ (34 ∷ hashes m ++ v)) ≡ u ++ 34 ∷ [] = ap (take (suc (length u))) text
    ∙ (ap (λ (k : ℕ). take k ((u ++ 34 ∷ []) ++ (hashes m ++ v))) size
    ∙ take-append_seam (u ++ 34 ∷ []) (hashes m ++ v)) in
    ap (λ (k : ℕ). start + k) (ap bytes here)

record BestIs (start m : ℕ) (w : List ℕ) (end : Option ℕ) : Type 0 where
  most : most_hashes w ≡ m
  at : quote_end start w (best_quote w) ≡ end

best-read : (start : ℕ) {w : List ℕ} {m : ℕ} {end : Option ℕ} → IsLikelyEnd start w m end → BestIs start m w end
best-read start {w} (the.none lacks) = grind (arith, common_steps, most-few 0 w lacks)
best-read start {w} (the.best {n = m} u v some whole lacks most_so) =
    let many : hash_run (hashes m ++ v) ≤ most_hashes w =
    omega (arith, ap most_hashes whole, most-many u (hashes m ++ v)) in
    let most : most_hashes w ≡ m = omega (arith, most-few m w most_so, many, hash_run-hashes m v) in
    let exact : hash_run (hashes m ++ v) ≡ m = omega (arith, hash_run-hashes m v, many, most) in
    let has : (m == 0) ≡ false =
    false_from_ne_true (m == 0) (λ z. absurd (let none : m ≡ 0 = eqb-true m 0 z in omega (arith, none, some))) in
    record {
      most = most;
      at =
          ap (λ (k : ℕ). quote_end start w (quote_if k w)) most
          ∙ (ap (λ (b : Bool). quote_end start w (if b then None else quote_with m w)) has
          ∙ (ap (λ (x : List ℕ). quote_end start x (quote_with m x)) whole
          ∙ (ap (quote_end start (u ++ (34 ∷ hashes m ++ v))) (quote-first m u v some lacks exact)
          ∙ ap Some (end-at start m u v))));
    }

-- Holds if the text has a likely end.
record HasBest (start : ℕ) (w : List ℕ) : Type 0 where
  count : ℕ
  end : Option ℕ
  is : IsLikelyEnd start w count end

has-best : (start : ℕ) (w : List ℕ) → HasBest start w
has-best start w = by_most (most_hashes w) refl
  where
    some-best : (m : ℕ) {v : List ℕ} → most_hashes v ≡ suc m → Closing (suc m) v → HasBest start v
    some-best m e (found u z lacks) =
        record {
          count = suc m;
          end = _;
          is = the.best u z (omega arith) refl lacks
              (lacks-past (suc (suc m)) _ (omega (arith, e)));
        }
    some-best m e (lost {u} lacks) = absurd (omega (arith, most-few m u lacks, e))

    by_most : (m : ℕ) → most_hashes w ≡ m → HasBest start w
    by_most zero e = record { count = 0; end = None; is = the.none (lacks-past 1 w (omega (arith, e))) }
    by_most (suc m) e = some-best m e (closing (suc m) w)

-- ---- the result

answer-read : {p : ℕ} {s : List ℕ} {r : Result Unit RawStrError} → IsRawAnswer p s r → r ≡ checked (raw_read p s).0
answer-read {p} (the.good {next = next} (lit.closed n w le lacks)) =
    grind (arith, common_steps, whole-text, closed-read, le-leb)
answer-read {p} (the.too_many n w next lt lacks) = grind (arith, common_steps, closed-read, lt-leb)
answer-read {p} (the.unclosed n w lacks is_best) = let b = best-read (p + suc n) is_best in
    grind (arith, common_steps, open-read, b.most, b.at)
answer-read {p} (the.no_quote n c next out) = grind (arith, common_steps, no_quote-read)
answer-read {p} (the.no_more n) = grind (arith, common_steps, no_more-read)

-- Holds if the check has a result.
record HasAnswer (p : ℕ) (s : List ℕ) : Type 0 where
  answer : Result Unit RawStrError
  is : IsRawAnswer p s answer

has-answer : (p : ℕ) (s : List ℕ) → HasAnswer p s
has-answer p s = by_shape (shape s)
  where
    by_shape : {s : List ℕ} → Shape s → HasAnswer p s
    by_shape (closed n w next lacks) = by_either (nat_le n 255)
        (λ e. record {
          answer = Ok tt;
          is = subst (λ (x : List ℕ). IsRawAnswer p x (Ok tt)) (whole-text n w next)
              (the.good (lit.closed n w (leb-true n 255 e) lacks));
        })
        (λ e. record { answer = Err (TooManyDelimiters n); is = the.too_many n w next (leb-false n 255 e) lacks })
    by_shape (unclosed n w lacks) = let b = has-best (p + suc n) w in
        record { answer = Err (NoTerminator n b.count b.end); is = the.unclosed n w lacks b.is }
    by_shape (no_quote n c next out) = record { answer = Err (InvalidStarter c); is = the.no_quote n c next out }
    by_shape (no_more n) = record { answer = Err (InvalidStarter 0); is = the.no_more n }

-- The model's result is the only one.
pub raw-answer : (text : List ℕ) (p : ℕ) (other : Result Unit RawStrError) → IsRawAnswer p (drop p (chars text)) other
    ↔ (other ≡ check_raw text p)
unfolding check_raw
raw-answer text p other = (
  λ is. answer-read is,
  λ e. let h = has-answer p (drop p (chars text)) in
      subst (IsRawAnswer p (drop p (chars text))) (answer-read h.is ∙ sym e) h.is,
)
