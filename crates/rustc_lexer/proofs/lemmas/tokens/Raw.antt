-- The loop over the text of a raw string.
use Rattle.std.proofs.Common.{◌≡◌, ℕ, suc, ◌+◌, ◌-◌, ◌≤◌, ◌<◌, ◌==◌, max, Bool, true, false}
use Rattle.std.proofs.Common.{List, [], ◌∷◌, length, drop, refl, ap, arith, Option}
use Rattle.std.proofs.Common.{Some, None, Result, Err, MatchOption}
use Rattle.std.specs.Str.{chars, encode_utf8_all, IsUtf8, IsCharBoundary}
use Rattle.std.proofs.lemmas.Bool.{eqb-true, eq-eqb, ne_eqb, le-leb, lt-leb, and_parts, not-true}
use Rattle.std.proofs.{lemmas.Str.{IsCharBoundary-from_drop}, Math.Seq.{drop-length}, lemmas.Grind.{common_steps}}
use Rattle.rustc_lexer.specs.{RawStrError, NoTerminator, model.Least.{one_more, more}}
use Rattle.rustc_lexer.specs.laws.Least.{offset-here, offset-on, more-more, more-zero}
use Rattle.rustc_lexer.specs.model.Raw.{least_offset, is_hash, is_quote, is_no_quote, hash_run, closes, close}
use Rattle.rustc_lexer.specs.model.Raw.{quote_hashes, most_hashes, quote_with, quote_if, quote_end, hash_count}
use Rattle.rustc_lexer.specs.model.Raw.{raw_text}
use Rattle.rustc_lexer.specs.laws.LanguageRuns.{run-stops}
use Rattle.rustc_lexer.specs.model.Scan.{begins, next_is, bytes_of, past, run_len, scanned}
use Rattle.rustc_lexer.specs.laws.Scan.{bytes-run, length-run}
use Rattle.rustc_lexer.specs.laws.Past.{past-zero, past-past, past-drop, chars-past, IsUtf8-past, length-past}
use Rattle.rustc_lexer.specs.laws.Fences.{skip_run}

-- The offsets of k characters, a quote, and h characters add up.
more-quote : (k h : ℕ) (o : Option ℕ) → more k (one_more (more h o)) ≡ more (suc k + h) o
more-quote k h o = grind (arith, common_steps)

-- Characters of a class without quotes can be skipped.
module _ (p : ℕ → Bool) (none : (c : ℕ) → p c ≡ true → is_quote c ≡ false) where
  skip-offset : (test : List ℕ → Bool) → ((c : ℕ) (s : List ℕ) → is_quote c ≡ false → test (c ∷ s) ≡ false)
      → (s : List ℕ) → least_offset test s ≡ more (run_len p s) (least_offset test (drop (run_len p s) s))
  skip-offset test fails = skip_run p test (λ c s e. fails c s (none c e))

  skip-most : (s : List ℕ) → most_hashes s ≡ most_hashes (drop (run_len p s) s)
  skip-most [] = refl
  skip-most (c ∷ s) = grind (arith, common_steps, skip-most s)

hash-no_quote : (c : ℕ) → is_hash c ≡ true → is_quote c ≡ false
hash-no_quote c e = rw (eqb-true c 35 e) refl

-- A text that starts with a quote is the quote and the text after it.
pub quote_front : (s left : List ℕ) → begins (34 ∷ []) s ≡ true → left ≡ drop 1 s → s ≡ 34 ∷ left
quote_front s left w2 w3 = grind (arith, common_steps, eqb-true, and_parts)

no_quote-nil : (s : List ℕ) → begins (34 ∷ []) s ≡ false → next_is is_no_quote s ≡ false → s ≡ []
no_quote-nil s w1 w2 = grind (arith, common_steps)

-- The text after the first quote follows the characters before it and the quote.
pub past_quote-is : {B : Type 0} (now : B → List ℕ) (rest mid : List ℕ) (o : Option B) → IsUtf8 rest
    → mid ≡ past (run_len is_no_quote (chars rest)) rest → length mid ≤ length rest
    → MatchOption o (begins (34 ∷ []) (chars mid) ≡ false) (λ tail. (begins (34 ∷ []) (chars mid) ≡ true)
    × (now tail ≡ past 1 mid) × (length (now tail) < length mid))
    → MatchOption o (drop (run_len is_no_quote (chars rest)) (chars rest) ≡ [])
    (λ tail. (drop (run_len is_no_quote (chars rest)) (chars rest) ≡ 34 ∷ chars (now tail))
    × (now tail ≡ past (suc (run_len is_no_quote (chars rest))) rest) × (length (now tail) < length rest))
past_quote-is now rest mid None is e le h =
    no_quote-nil _ (cc (chars-past (run_len is_no_quote (chars rest)) rest is)) (run-stops is_no_quote (chars rest))
past_quote-is now rest mid (Some tail) is e le h =
    let n : ℕ = run_len is_no_quote (chars rest) in
    let reads : chars mid ≡ drop n (chars rest) = cc (chars-past n rest is) in
    let one : n + 1 ≡ suc n = omega arith in (
      quote_front _ _ (cc) (cc (chars-past 1 mid (rw e (IsUtf8-past n rest is)))),
      cc (past-past 1 n rest is),
      omega arith,
    )

-- After a run without quotes, a quote, and its hashes.
module _ (v w : List ℕ) (at_quote : drop (run_len is_no_quote v) v ≡ 34 ∷ w) where
  -- A test that fails at each character except a quote.
  module _ (test : List ℕ → Bool) (fails : (c : ℕ) (s : List ℕ) → is_quote c ≡ false → test (c ∷ s) ≡ false) where
    to-quote : least_offset test v ≡ more (run_len is_no_quote v) (least_offset test (34 ∷ w))
    to-quote = rw at_quote at (skip-offset is_no_quote (λ c. not-true (is_quote c)) test fails v)

    pub offset-at : test (34 ∷ w) ≡ true → least_offset test v ≡ Some (run_len is_no_quote v)
    offset-at e = rw (to-quote, offset-here test 34 w e) (ap Some (omega arith))

    pub offset-past : test (34 ∷ w) ≡ false → least_offset test v ≡ more (suc (run_len is_no_quote v) + hash_run w)
        (least_offset test (drop (hash_run w) w))
    offset-past e =
        grind (
          arith,
          common_steps,
          to-quote,
          offset-on test 34 w e,
          skip-offset is_hash hash-no_quote test fails w,
          more-quote (run_len is_no_quote v) (hash_run w) (least_offset test (drop (hash_run w) w)),
        )

  pub most-past : most_hashes v ≡ max (hash_run w) (most_hashes (drop (hash_run w) w))
  most-past = cc (skip-most is_no_quote (λ c. not-true (is_quote c)) v, skip-most is_hash hash-no_quote w)

closes-fails : (n c : ℕ) (s : List ℕ) → is_quote c ≡ false → closes n (c ∷ s) ≡ false
closes-fails n c s e = rw e refl

counts-fails : (m c : ℕ) (s : List ℕ) → 0 < m → is_quote c ≡ false → (quote_hashes (c ∷ s) == m) ≡ false
counts-fails m c s some e = rw e (ne_eqb 0 m (λ f. omega arith))

-- Holds at the start of each iteration: `found` is the maximum number of hashes after a quote that was read, and `end`
-- is the end of the first quote with `found` hashes.
pub record Searching (n before : ℕ) (text left : List ℕ) (found : ℕ) (end : Option ℕ) : Type 0 where
  pub taken : ℕ
  pub inside : length left ≤ length text
  pub offset : left ≡ past taken text
  pub closes_at : close n (chars text) ≡ more taken (close n (chars left))
  pub most : most_hashes (chars text) ≡ max found (most_hashes (chars left))
  pub more : (m : ℕ) → found < m → quote_with m (chars text) ≡ more taken (quote_with m (chars left))
  pub ends : end ≡ quote_end before (chars text) (quote_if found (chars text))

pub search_start : (n before : ℕ) (text : List ℕ) → IsUtf8 text → Searching n before text text 0 None
search_start n before text is = grind (arith, common_steps, past-zero, more-zero)

pub hash_len : (text rest : List ℕ) → IsUtf8 text → rest ≡ past (hash_run (chars text)) text
    → length text - length rest ≡ hash_run (chars text)
hash_len = length-run is_hash (λ c e. let f = eqb-true c 35 e in omega arith)

-- The first n hashes have one byte each.
module _ (rest : List ℕ) (is : IsUtf8 rest) (n : ℕ) (few : n ≤ hash_run (chars rest)) where
  hash_bytes_are : bytes_of n (chars rest) ≡ n
  hash_bytes_are = bytes-run is_hash (λ c e. let f = eqb-true c 35 e in omega arith) n (chars rest) few

  pub hash_cut : drop n rest ≡ past n rest
  hash_cut = cc (past-drop n rest is, hash_bytes_are)

  pub hash_boundary : IsCharBoundary rest n
  hash_boundary = IsCharBoundary-from_drop rest n (let l = length-past n rest is in let b = hash_bytes_are in
      omega arith) (rw hash_cut (IsUtf8-past n rest is))

-- One iteration of the loop: `tail` is the text after the next quote, and `next` the text after its hashes.
module _ (n before : ℕ) (text left tail next : List ℕ) (found : ℕ) (end : Option ℕ) (is : IsUtf8 text)
    (at : Searching n before text left found end)
    (quote : drop (run_len is_no_quote (chars left)) (chars left) ≡ 34 ∷ chars tail)
    (tail_is : tail ≡ past (suc (run_len is_no_quote (chars left))) left)
    (next_is : next ≡ past (run_len is_hash (chars tail)) tail) where
  tail_at : tail ≡ past (at.taken + suc (run_len is_no_quote (chars left))) text
  tail_at = cc (past-past (suc (run_len is_no_quote (chars left))) at.taken text is)

  tail_utf8 : IsUtf8 tail
  tail_utf8 = rw tail_at (IsUtf8-past (at.taken + suc (run_len is_no_quote (chars left))) text is)

  count : length tail - length next ≡ hash_run (chars tail)
  count = hash_len tail next tail_utf8 next_is

  next_reads : chars next ≡ drop (hash_run (chars tail)) (chars tail)
  next_reads = cc (chars-past (hash_run (chars tail)) tail tail_utf8)

  next_at : next ≡ past (at.taken + (suc (run_len is_no_quote (chars left)) + hash_run (chars tail))) text
  next_at = grind (arith, common_steps, tail_at, past-past)

  offset_on : (test : List ℕ → Bool) → ((c : ℕ) (s : List ℕ) → is_quote c ≡ false → test (c ∷ s) ≡ false)
      → test (34 ∷ chars tail) ≡ false → least_offset test (chars text) ≡ more at.taken (least_offset test (chars left))
      → least_offset test (chars text) ≡
      more (at.taken + (suc (run_len is_no_quote (chars left)) + hash_run (chars tail)))
      (least_offset test (chars next))
  offset_on test fails e f =
      grind (
        arith,
        common_steps,
        f,
        offset-past (chars left) (chars tail) quote test fails e,
        more-more at.taken (suc (run_len is_no_quote (chars left)) + hash_run (chars tail))
            (least_offset test (drop (hash_run (chars tail)) (chars tail))),
        next_reads,
      )

  most_on : most_hashes (chars text) ≡ max found (max (hash_run (chars tail)) (most_hashes (chars next)))
  most_on = cc (most-past (chars left) (chars tail) quote, next_reads)

  -- The quote has too few hashes to close the string.
  module _ (few : length tail - length next < n) (shorter : length next ≤ length text) where
    on : (to : ℕ) (o : Option ℕ) → found ≤ to → hash_run (chars tail) ≤ to → max found (hash_run (chars tail)) ≡ to
        → o ≡ quote_end before (chars text) (quote_if to (chars text)) → Searching n before text next to o
    on to o above here most e =
        grind (arith, common_steps, count, next_at, offset_on, closes-fails, lt-leb, most_on, counts-fails, ne_eqb)

    pub search_on : length tail - length next ≤ found → Searching n before text next found end
    search_on le = let is_count = count in on found end (omega arith) (omega arith) (omega arith) at.ends

    pub search_more : found < length tail - length next
        → Searching n before text next (length tail - length next) (Some (before + (length text - length tail)))
    search_more less =
        let h : ℕ = hash_run (chars tail) in
        let k : ℕ = run_len is_no_quote (chars left) in
        let is_count = count in
        let some : (h == 0) ≡ false = ne_eqb h 0 (λ f. omega arith) in
        let first : quote_with h (chars text) ≡ Some (at.taken + k) =
        rw (
          at.more h (omega arith),
          offset-at (chars left) (chars tail) quote (λ s. quote_hashes s == h)
              (λ c s f. counts-fails h c s (omega arith) f) (eq-eqb h h refl),
        ) refl in
        let same : suc (at.taken + k) ≡ at.taken + suc k = omega arith in
        let bytes : bytes_of (at.taken + suc k) (chars text) + length tail ≡ length text =
        rw tail_at (length-past (at.taken + suc k) text is) in
        let ends : Some (before + (length text - length tail)) ≡
        quote_end before (chars text) (quote_if h (chars text)) =
        let m : length text - length tail ≡ bytes_of (at.taken + suc k) (chars text) = omega arith in
        rw (some, first, m, same) refl in
        let all : Searching n before text next h _ = on h _ (omega arith) (omega arith) (omega arith) ends in
        rw count all

  -- The quote closes the string.
  module _ (enough : n ≤ length tail - length next) where
    enough_hashes : n ≤ hash_run (chars tail)
    enough_hashes = let is_count = count in omega arith

    pub may_cut : IsCharBoundary tail n
    may_cut = hash_boundary tail tail_utf8 n enough_hashes

    pub closed_here : (read : Result ℕ RawStrError) (cut : List ℕ) → read ≡ hash_count n → cut ≡ drop n tail
        → (read, cut) ≡ scanned (raw_text n before) text
    closed_here read cut e f =
        let k : ℕ = run_len is_no_quote (chars left) in
        let closes_here : close n (chars text) ≡ Some (at.taken + k) =
        rw (
          at.closes_at,
          offset-at (chars left) (chars tail) quote (closes n) (closes-fails n)
              (le-leb n (hash_run (chars tail)) enough_hashes),
        ) refl in
        let same : (at.taken + suc k) + n ≡ suc (at.taken + k) + n = omega arith in
        let left_is : cut ≡ past (suc (at.taken + k) + n) text =
        cc (hash_cut tail tail_utf8 n enough_hashes, tail_at, past-past n (at.taken + suc k) text is) in
        rw (closes_here, e, left_is) refl

past-all : (text : List ℕ) → past (length (chars text)) text ≡ []
unfolding past
past-all text = ap encode_utf8_all (drop-length (chars text))

-- If no quote is left, the string is unterminated.
pub never_closed : (n before : ℕ) (text left : List ℕ) (found : ℕ) (end : Option ℕ)
    → Searching n before text left found end → drop (run_len is_no_quote (chars left)) (chars left) ≡ []
    → (Err (NoTerminator n found end), []) ≡ scanned (raw_text n before) text
never_closed n before text left found end at none =
    grind (
      arith,
      common_steps,
      at.closes_at,
      skip-offset is_no_quote (λ c. not-true (is_quote c)) (closes n)
          (closes-fails n) (chars left),
      none,
      skip-most is_no_quote (λ c. not-true (is_quote c)) (chars left),
      past-all,
    )
