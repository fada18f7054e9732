-- One bit of a word, for each operation on words.
use Rattle.std.proofs.Common.{◌≡◌, ℕ, zero, suc, ◌+◌, ◌-◌, ◌*◌, ◌/◌, ◌%◌, ◌^◌, ◌<◌, ◌≤◌, min, max, length, map, Bool}
use Rattle.std.proofs.Common.{true, false, true≢false, not, ◌&&◌, ◌||◌, ◌==◌, List, get_or, refl, sym, ap, ◌∙◌}
use Rattle.std.proofs.Common.{arith, w64, bit_and, bit_or, inl, inr, nat_lt}
use Rattle.std.specs.Int.{bit_at}
use Rattle.std.proofs.lemmas.Bool.{agree_below_at, and_left, and_right, cases_lt, eqb-true, le-ltb, lt-ltb}
use Rattle.std.proofs.lemmas.Nat.{pow_pos, and_le_l, and_le_r, or_lt, shr-shr}
use Rattle.std.proofs.lemmas.Nat.Bits.{bit_at_and, bit_at_or, bit_at_not, bit_at_lowest, bit_at-lt, bit_at-suc}
use Rattle.std.proofs.lemmas.Nat.Bits.{bit_at-zero, bit_at_above, bit_at_cat_high, bit_at_cat_low}
use Rattle.std.proofs.lemmas.Nat.Bits.{bit_at-trailing_zeros}
use Rattle.std.proofs.lemmas.Simd.{bit_mask_l, length-chunk, get_or-chunk, mask_l-mod}
use Rattle.std.proofs.{lemmas.List.{get_or-map, get_or_past, length-map}, Math.Bool.{and-true, and_self}}
use Rattle.std.proofs.{Math.Nat.{add-zero}, lemmas.Grind.{common_steps}}
use lib.Count.{count_trailing_zeros}
use lib.Lanes.{chunk, mask_l}
use Rattle.rustc_lexer.specs.model.Ends.{bit, IsLowest}

bit_cases : (P : ℕ → Type 0) → P 0 → P 1 → (x : ℕ) → x < 2 → P x
bit_cases w0 p q w3 h = grind (arith, common_steps)

two_bits : (P : ℕ → ℕ → Type 0) → P 0 0 → P 0 1 → P 1 0 → P 1 1 → (a b i : ℕ) → P (bit_at a i) (bit_at b i)
two_bits P p q r s a b i = bit_cases (λ x. P x (bit_at b i)) (bit_cases (P 0) p q (bit_at b i) (bit_at-lt b i))
    (bit_cases (P 1) r s (bit_at b i) (bit_at-lt b i)) (bit_at a i) (bit_at-lt a i)

pub bit-and : (a b i : ℕ) → bit (bit_and a b) i ≡ (bit a i && bit b i)
unfolding bit
bit-and a b i = ap (λ n. n == 1) (bit_at_and a b i)
    ∙ two_bits (λ x y. (min x y == 1) ≡ ((x == 1) && (y == 1))) refl refl refl refl a b i

pub bit-or : (a b i : ℕ) → bit (bit_or a b) i ≡ (bit a i || bit b i)
unfolding bit
bit-or a b i = ap (λ n. n == 1) (bit_at_or a b i)
    ∙ two_bits (λ x y. (max x y == 1) ≡ ((x == 1) || (y == 1))) refl refl refl refl a b i

abbrev pub flip : ℕ → ℕ
flip a = 2 ^ 64 - 1 - a

pub bit-flip : (a i : ℕ) → a < 2 ^ 64 → i < 64 → bit (flip a) i ≡ not (bit a i)
unfolding bit
bit-flip a i ha hi = ap (λ n. n == 1) (bit_at_not w64 a i ha hi)
    ∙ bit_cases (λ x. ((1 - x) == 1) ≡ not (x == 1)) refl refl (bit_at a i) (bit_at-lt a i)

bit-mod : (n i : ℕ) → i < 64 → bit (n % 2 ^ 64) i ≡ bit n i
unfolding bit
bit-mod n i h =
    let e : n ≡ n / 2 ^ 64 * 2 ^ 64 + n % 2 ^ 64 = omega arith in
    cc (e, bit_at_cat_low (n / 2 ^ 64) 64 (n % 2 ^ 64) i h)

ones : (k : ℕ) → k < 64 → bit (2 ^ 64 - 1) k ≡ true
unfolding bit
ones k l = agree_below_at (λ j. bit (2 ^ 64 - 1) j) (λ _. true) 64 k refl l

-- A shift to the left clears the bits below n.
pub bit-shl_below : (y n k : ℕ) → k < n → k < 64 → bit (y * 2 ^ n % 2 ^ 64) k ≡ false
unfolding bit
bit-shl_below y n k less l =
    cc (bit-mod (y * 2 ^ n) k l, add-zero (y * 2 ^ n), bit_at_cat_low y n 0 k less, bit_at-zero k)

pub bit-shl_on : (y n k : ℕ) → n ≤ k → k < 64 → bit (y * 2 ^ n % 2 ^ 64) k ≡ bit y (k - n)
unfolding bit
bit-shl_on y n k le l =
    cc (bit-mod (y * 2 ^ n) k l, add-zero (y * 2 ^ n), bit_at_cat_high y n 0 k (pow_pos n) le)

bit-shr : (y n k : ℕ) → bit (y / 2 ^ n) k ≡ bit y (n + k)
unfolding bit
bit-shr y n k = ap (λ x. x % 2 == 1) (shr-shr y n k)

pub bit-above : (x i : ℕ) → x < 2 ^ 64 → 64 ≤ i → bit x i ≡ false
unfolding bit
bit-above x i small far = ap (λ n. n == 1) (bit_at_above x 64 i small far)

-- Exactly the bits below n are set.
pub bit-below : (n k : ℕ) → n ≤ 64 → k < 64 → bit ((2 ^ 64 - 1) / 2 ^ (64 - n)) k ≡ nat_lt k n
bit-below n k few l = grind (arith, common_steps, bit-shr, cases_lt, ones, lt-ltb, bit-above, le-ltb)

pub bit-mask_l : (ms : List Bool) (i : ℕ) → bit (mask_l ms) i ≡ get_or ms i false
unfolding bit
bit-mask_l ms i = grind (arith, common_steps, bit_mask_l)

-- The index of a bit that is set is less than 64.
pub within : (x i : ℕ) → x < 2 ^ 64 → bit x i ≡ true → i < 64
within x i small set =
    elim (cases_lt i 64) [ inl near ↦ near | inr far ↦ absurd (cc (bit-above x i small far)) ]

pub bit-zero : (i : ℕ) → bit 0 i ≡ false
unfolding bit
bit-zero i = ap (λ n. n == 1) (bit_at-zero i)

-- ---- all bits except the lowest

abbrev pub high : ℕ
high = 2 ^ 64 - 2

high-low : bit high 0 ≡ false
unfolding bit
high-low = refl

high-high : (k : ℕ) → suc k < 64 → bit high (suc k) ≡ true
unfolding bit
high-high k h = agree_below_at (λ j. bit high (suc j)) (λ _. true) 63 k refl (omega arith)

high_past : (k n : ℕ) → n < k → k < 64 → bit high (k - n) ≡ true
high_past k n more l = let e : k - n ≡ suc (k - n - 1) = omega arith in rw e (high-high (k - n - 1) (omega arith))

pub low-off : (x : ℕ) → bit (bit_and x high) 0 ≡ false
low-off x = rw bit-and (and_right _ _ high-low)

pub high-stays : (x k : ℕ) → suc k < 64 → bit (bit_and x high) (suc k) ≡ bit x (suc k)
high-stays x k h = rw (bit-and, high-high k h) (and-true (bit x (suc k)))

-- ---- bits that are not set together in either of two words

module _ (w s : ℕ) (fits : w < 2 ^ 64) (fits_too : s < 2 ^ 64) where
  abbrev together : ℕ
  together = bit_or (bit_and (w * 2 % 2 ^ 64) w) (bit_and (s * 2 % 2 ^ 64) s)

  pub run_edges-first : bit (bit_and (flip together) high) 0 ≡ false
  run_edges-first = low-off (flip together)

  pub run_edges-later : (k : ℕ) → suc k < 64 → bit (bit_and (flip together) high) (suc k) ≡
      not ((bit w k && bit w (suc k)) || (bit s k && bit s (suc k)))
  run_edges-later k h =
      let small : together < 2 ^ 64 =
      or_lt 64 (bit_and (w * 2 % 2 ^ 64) w) (bit_and (s * 2 % 2 ^ 64) s)
      (omega (arith, and_le_r (w * 2 % 2 ^ 64) w)) (omega (arith, and_le_r (s * 2 % 2 ^ 64) s)) in
      rw (high-stays (flip together) k h, bit-flip together (suc k) small h, bit-or, both w, both s) refl
    where
      both : (x : ℕ) → bit (bit_and (x * 2 % 2 ^ 64) x) (suc k) ≡ (bit x k && bit x (suc k))
      both x = let e : suc k - 1 ≡ k = omega arith in rw (bit-and, bit-shl_on x 1 (suc k) (omega arith) h, e) refl

-- ---- bits after an offset

module _ (x n : ℕ) (near : n < 64) where
  pub after-gone : (k : ℕ) → k ≤ n → bit (bit_and x (high * 2 ^ n % 2 ^ 64)) k ≡ false
  after-gone k le = grind (arith, common_steps, bit-and, cases_lt, bit-shl_below, bit-shl_on, high-low, and_right)

  pub after-others : x < 2 ^ 64 → (k : ℕ) → n < k → bit (bit_and x (high * 2 ^ n % 2 ^ 64)) k ≡ bit x k
  after-others small k more =
      grind (arith, common_steps, bit-and, cases_lt, bit-shl_on, high_past, and-true, bit-above, and_le_l)

-- ---- the lowest bit

pub lowest_is : (x : ℕ) → 0 < x → x < 2 ^ 64 → IsLowest x (count_trailing_zeros 64 x)
unfolding bit
lowest_is x some small = let low = bit_at-trailing_zeros w64 x some small in
    record { set = ap (λ n. n == 1) low.1; least = λ k l. ap (λ n. n == 1) (low.2 k l) }

-- The lowest bit is among the bits that can be set.
pub lowest_in : (x w : ℕ) → 0 < x → x < 2 ^ 64 → ((k : ℕ) → w ≤ k → bit x k ≡ false) → count_trailing_zeros 64 x < w
lowest_in x w some small none = elim (cases_lt (count_trailing_zeros 64 x) w)
    [ inl near ↦ near | inr far ↦ absurd (cc ((lowest_is x some small).set, none _ far)) ]

-- The mask of w bytes from `at` on.
module _ (p : ℕ → Bool) (bytes : List ℕ) (at w mask : ℕ) (inside : at + w ≤ length bytes)
    (e : mask ≡ mask_l (map p (chunk at w bytes))) where
  pub mask_in : (k j : ℕ) → at + k ≡ j → k < w → bit mask k ≡ p (get_or bytes j 0)
  mask_in k j f l = grind (arith, common_steps, bit-mask_l, get_or-map, length-chunk, get_or-chunk)

  pub mask_past : (k : ℕ) → w ≤ k → bit mask k ≡ false
  mask_past k far = grind (arith, common_steps, bit-mask_l, get_or_past, length-map, length-chunk)

  -- The number of trailing zeros of the mask is its lowest bit, which is among the w bits.
  pub mask_lowest : w ≤ 64 → 0 < mask → (count_trailing_zeros 64 mask < w)
      × IsLowest mask (count_trailing_zeros 64 mask)
  mask_lowest few some =
      let small : mask < 2 ^ 64 = omega (
        arith,
        e,
        mask_l-mod (map p (chunk at w bytes)) 64
            (omega (arith, length-map (chunk at w bytes) p, length-chunk at w bytes inside)),
      ) in
      (lowest_in mask w some small mask_past, lowest_is mask some small)

-- ---- all bits except the lowest

at_pred : (low x : ℕ) → 0 < x → bit_at x low ≡ 1 → ((k : ℕ) → k < low → bit_at x k ≡ 0) → bit_at (x - 1) low ≡ 0
at_pred zero x some set least = omega (arith, bit_at_lowest x, bit_at_lowest (x - 1), set)
at_pred (suc low) x some set least =
    let even : x % 2 ≡ 0 = sym (bit_at_lowest x) ∙ least 0 (omega arith) in
    let half : (x - 1) / 2 ≡ x / 2 - 1 = omega (arith, even, some) in
    bit_at-suc (x - 1) low
    ∙ (ap (λ y. bit_at y low) half ∙ at_pred low (x / 2) (omega (arith, even, some)) (sym (bit_at-suc x low) ∙ set)
    (λ k l. sym (bit_at-suc x k) ∙ least (suc k) (omega arith)))

above_pred : (low k x : ℕ) → 0 < x → bit_at x low ≡ 1 → ((k : ℕ) → k < low → bit_at x k ≡ 0) → low < k
    → bit_at (x - 1) k ≡ bit_at x k
above_pred low zero x some set least above = absurd (omega arith)
above_pred zero (suc k) x some set least above = grind (arith, common_steps, bit_at_lowest, bit_at-suc)
above_pred (suc low) (suc k) x some set least above =
    grind (
      arith,
      common_steps,
      bit_at_lowest,
      bit_at-suc,
      above_pred low k (x / 2) (omega (arith, (sym (bit_at_lowest x) ∙ least 0 (omega arith)), some))
          (sym (bit_at-suc x low) ∙ set) (λ j l. sym (bit_at-suc x j) ∙ least (suc j) (omega arith)) (omega arith),
    )

module _ (x low : ℕ) (some : 0 < x) (lowest : IsLowest x low) where
  set_at : bit_at x low ≡ 1
  unfolding bit
  set_at = eqb-true (bit_at x low) 1 lowest.set

  least_at : (k : ℕ) → k < low → bit_at x k ≡ 0
  unfolding bit
  least_at k l = bit_cases (λ y. (y == 1) ≡ false → y ≡ 0) (λ _. refl) (λ e. absurd (true≢false e)) (bit_at x k)
      (bit_at-lt x k) (lowest.least k l)

  pub past_lowest-gone : (k : ℕ) → k ≤ low → bit (bit_and x (x - 1)) k ≡ false
  unfolding bit
  past_lowest-gone k le = grind (arith, common_steps, bit-and, cases_lt, and_left, and_right, at_pred, set_at, least_at)

  pub past_lowest-others : (k : ℕ) → low < k → bit (bit_and x (x - 1)) k ≡ bit x k
  unfolding bit
  past_lowest-others k l = rw (bit-and, above_pred low k x some set_at least_at l) (and_self (bit x k))

pub ruleset bit_lemmas = (
  run_edges-first,
  run_edges-later,
  after-gone,
  after-others,
  bit-above,
  bit-zero,
  past_lowest-gone,
  past_lowest-others,
)
