-- A search for a pattern, which compares four of its bytes at 16 offsets at a time.
use Rattle.std.proofs.Common.{◌≡◌, ℕ, zero, suc, ◌+◌, ◌-◌, ◌<◌, ◌≤◌, ◌^◌, ◌==◌, ◌&&◌, Bool, true, false, true≢false}
use Rattle.std.proofs.Common.{List, [], ◌∷◌, map, length, drop, drop-drop, length-drop, get_or, refl, sym, ◌∙◌}
use Rattle.std.proofs.Common.{arith, bit_and, inl, inr}
use Rattle.std.proofs.lemmas.{Bool.{and_parts, cases_lt, false_from_ne_true}, List.{get_or-drop, length-map}}
use Rattle.std.proofs.lemmas.{Simd.{length-chunk, mask_l-lt}, Nat.Bits.{bit_at_above}}
use lib.Count.{count_trailing_zeros}
use lib.Lanes.{chunk, mask_l}
use Rattle.memchr.specs.Find.{is_byte}
use Rattle.rustc_lexer.specs.model.{Ends.{bit}, Frontmatter.{first}, Least.{more}, Scan.{begins}}
use Rattle.rustc_lexer.specs.laws.{Least.{more-zero, offset-on, one_more-more}}
use Rattle.rustc_lexer.proofs.lemmas.tokens.Bits.{bit-and, bit-zero, lowest_in, lowest_is}

-- A mask of the first 16 bytes has 16 bits.
pub few : (p : ℕ → Bool) (bytes : List ℕ) (mask : ℕ) → 16 ≤ length bytes → mask ≡ mask_l (map p (chunk 0 16 bytes))
    → mask < 2 ^ 16
few p bytes mask inside e =
    rw e (rw (length-map (chunk 0 16 bytes) p, length-chunk 0 16 bytes (omega arith)) at
    (mask_l-lt (map p (chunk 0 16 bytes))))

-- Holds if the pattern has no match before offset `n`.
abbrev pub AreApart : List ℕ → List ℕ → ℕ → Type 0
AreApart pattern bytes n = (k : ℕ) → k < n → begins pattern (drop k bytes) ≡ false

-- Holds at the start of each iteration: `left` is the part that has not been searched, and there is no match before it.
pub record IsLooking (pattern bytes left : List ℕ) : Type 0 where
  pub inside : length left ≤ length bytes
  pub left_is : left ≡ drop (length bytes - length left) bytes
  pub apart : AreApart pattern bytes (length bytes - length left)

pub look_start : (pattern bytes : List ℕ) → IsLooking pattern bytes bytes
look_start pattern bytes =
    let none : length bytes - length bytes ≡ 0 = omega arith in
    record {
      inside = omega arith;
      left_is = rw none refl;
      apart = λ k l. absurd (omega arith);
    }

pub near : (x : ℕ) → 0 < x → x < 2 ^ 16 → count_trailing_zeros 64 x < 16
unfolding bit
near x some small =
    lowest_in x 16 some (omega arith) (λ k far. rw (bit_at_above x 16 k small far) refl)

-- Each byte of a match equals the byte of the pattern.
begins-at : (pattern s : List ℕ) (i : ℕ) → begins pattern s ≡ true → i < length pattern
    → is_byte (get_or pattern i 0) (get_or s i 0) ≡ true
begins-at [] s i e l = absurd (omega (arith, l))
begins-at (c ∷ cs) [] i e l = absurd (true≢false (sym e))
begins-at (c ∷ cs) (d ∷ s) zero e l = (and_parts (d == c) (begins cs s) e).0
begins-at (c ∷ cs) (d ∷ s) (suc i) e l = begins-at cs s i (and_parts (d == c) (begins cs s) e).1 (omega arith)

-- Whether four bytes of the pattern match at an offset.
abbrev pub four_at : ℕ → ℕ → ℕ → ℕ → ℕ → List ℕ → ℕ → Bool
four_at first second third last span bytes k =
    ((is_byte first (get_or bytes k 0) && is_byte last (get_or bytes (span + k) 0)) && is_byte second
    (get_or bytes (1 + k) 0)) && is_byte third (get_or bytes (2 + k) 0)

-- If the pattern matches at an offset, so do the four bytes.
pub candidate : (first second third last span c : ℕ) (more left : List ℕ) → first ≡ c → second ≡ get_or more 0 0
    → third ≡ get_or more 1 0 → last ≡ get_or more (length more - 1) 0 → span ≡ length more
    → 2 ≤ length more → (found : ℕ) → ((k : ℕ) → k < 16 → bit found k ≡ four_at first second third last span left k)
    → (k : ℕ) → k < 16 → begins (c ∷ more) (drop k left) ≡ true → bit found k ≡ true
candidate first second third last span c more left e1 e2 e3 e4 e5 some found are k l begun =
    let byte : (i : ℕ) → i < length (c ∷ more) → is_byte (get_or (c ∷ more) i 0) (get_or left (k + i) 0) ≡ true =
    λ i m. rw get_or-drop at (begins-at (c ∷ more) (drop k left) i begun m) in
    let place : (i j b : ℕ) → i < length (c ∷ more) → k + i ≡ j → b ≡ get_or (c ∷ more) i 0
    → is_byte b (get_or left j 0) ≡ true =
    λ i j b m sum same. rw (same, ← sum) (byte i m) in
    let one = place 0 k first (omega arith) (omega arith) e1 in
    let two = place 1 (1 + k) second (omega (arith, some)) (omega arith) e2 in
    let three = place 2 (2 + k) third (omega (arith, some)) (omega arith) e3 in
    let four = place (suc (length more - 1)) (span + k) last (omega (arith, some)) (omega (arith, e5, some)) e4 in
    are k l ∙ rw (one, four, two, three) refl

-- The comparison at 16 offsets.
module _ (first second third last span : ℕ) (bytes : List ℕ) (firsts : ℕ) (firsts_are : (k : ℕ) → k < 16
    → bit firsts k ≡ is_byte first (get_or bytes k 0)) where
  seen : (n : ℕ) (s : List ℕ) (k : ℕ) → s ≡ drop n bytes → get_or s k 0 ≡ get_or bytes (n + k) 0
  seen n s k e = rw e (get_or-drop n bytes k 0)

  pub no_first : firsts ≡ 0 → (k : ℕ) → k < 16 → bit 0 k ≡ four_at first second third last span bytes k
  no_first e k l =
      let none : is_byte first (get_or bytes k 0) ≡ false = cc (firsts_are k l, bit-zero k) in rw none (bit-zero k)

  module _ (lasts : ℕ) (tail : List ℕ) (tail_is : tail ≡ drop span bytes) (lasts_are : (k : ℕ) → k < 16
      → bit lasts k ≡ is_byte last (get_or tail k 0)) where
    both_are : (k : ℕ) → k < 16 → bit (bit_and firsts lasts) k ≡
        (is_byte first (get_or bytes k 0) && is_byte last (get_or bytes (span + k) 0))
    both_are k l = rw (bit-and, firsts_are k l, lasts_are k l, seen span tail k tail_is) refl

    pub no_last : bit_and firsts lasts ≡ 0 → (k : ℕ) → k < 16 → bit 0 k ≡ four_at first second third last span bytes k
    no_last e k l =
        let none : (is_byte first (get_or bytes k 0) && is_byte last (get_or bytes (span + k) 0)) ≡ false =
        cc (both_are k l, bit-zero k) in
        rw none (bit-zero k)

    pub all_four : (seconds thirds : ℕ) (right next : List ℕ) → right ≡ drop 1 bytes → next ≡ drop 2 bytes
        → ((k : ℕ) → k < 16 → bit seconds k ≡ is_byte second (get_or right k 0))
        → ((k : ℕ) → k < 16 → bit thirds k ≡ is_byte third (get_or next k 0))
        → (k : ℕ) → k < 16 → bit (bit_and (bit_and (bit_and firsts lasts) seconds) thirds) k ≡
        four_at first second third last span bytes k
    all_four seconds thirds right next right_is next_is seconds_are thirds_are k l =
        cc (
          bit-and (bit_and (bit_and firsts lasts) seconds) thirds k,
          bit-and (bit_and firsts lasts) seconds k,
          both_are k l,
          seconds_are k l,
          seen 1 right k right_is,
          thirds_are k l,
          seen 2 next k next_is,
        )

-- The loop continues, or ends.
module _ (pattern bytes left : List ℕ) (at : IsLooking pattern bytes left) (found : ℕ)
    (stands : (k : ℕ) → k < 16 → begins pattern (drop k left) ≡ true → bit found k ≡ true) where
  abbrev here : ℕ
  here = length bytes - length left

  up_to : (n : ℕ) → n ≤ 16 → ((j : ℕ) → j < n → bit found j ≡ false) → AreApart pattern bytes (here + n)
  up_to n few none k l = elim (cases_lt k here) [
    | inl before ↦ at.apart k before
    | inr past ↦
        let sum : here + (k - here) ≡ k = omega arith in
        let same : drop (k - here) left ≡ drop k bytes = cc (at.left_is, drop-drop (k - here) here bytes) in
        rw (← same) (false_from_ne_true _
        (λ t. cc (stands (k - here) (omega arith) t, none (k - here) (omega arith))))
  ]

  pub look_on : found ≡ 0 → (rest : List ℕ) → 16 ≤ length left → rest ≡ drop 16 left → IsLooking pattern bytes rest
  look_on e rest long cut =
      let size : length rest ≡ length left - 16 = rw cut (length-drop 16 left) in
      let far : length bytes - length rest ≡ here + 16 = omega (arith, at.inside) in
      record {
        inside = omega (arith, at.inside);
        left_is = cc (at.left_is, drop-drop 16 here bytes, far);
        apart = rw far (up_to 16 (omega arith) (λ j l. rw e (bit-zero j)));
      }

  pub look_end : 0 < found → found < 2 ^ 16 → AreApart pattern bytes (here + count_trailing_zeros 64 found)
  look_end some small =
      let less = near found some small in up_to _ (omega arith) (lowest_is found some (omega arith)).least

-- The bytes that were skipped contain no start of a match.
pub apart_first : (pattern s : List ℕ) (n : ℕ) → n ≤ length s → AreApart pattern s n
    → first pattern s ≡ more n (first pattern (drop n s))
apart_first pattern s zero le apart = more-zero (first pattern s)
apart_first pattern [] (suc n) le apart = absurd (omega arith)
apart_first pattern (c ∷ s) (suc n) le apart =
    cc (
      offset-on (begins pattern) c s (apart 0 (omega arith)),
      apart_first pattern s n (omega arith) (λ k l. apart (suc k) (omega arith)),
      one_more-more n (first pattern (drop n s)),
    )
