-- A search for bytes outside a class among the first bytes, which reads several lanes at a time.
use Rattle.std.proofs.lemmas.Grind.{common_steps}
use Rattle.std.proofs.Common.{◌≡◌, ℕ, ◌+◌, ◌-◌, ◌*◌, ◌%◌, ◌^◌, ◌<◌, ◌≤◌, Bool, true, List, length, map, get_or, ◌∙◌}
use Rattle.std.proofs.Common.{arith, bit_or}
use Rattle.std.proofs.lemmas.Bool.{cases_lt, or_cases, or_right}
use lib.Lanes.{chunk, mask_l}
use Rattle.rustc_lexer.specs.model.{ByteRuns.{outside}, Ends.{bit}}
use Rattle.rustc_lexer.proofs.lemmas.tokens.Bits.{bit-or, bit-shl_below, bit-shl_on, mask_in, mask_past}

module _ (p : ℕ → Bool) (bytes : List ℕ) where
  abbrev stops_at : ℕ → Bool
  stops_at k = outside p (get_or bytes k 0)

  -- Reading w bytes from `at` on.
  module _ (at w mask : ℕ) (inside : at + w ≤ length bytes)
      (e : mask ≡ mask_l (map (outside p) (chunk at w bytes))) where
    -- Returns the mask, shifted to its position among 64 bits.
    abbrev shown : ℕ
    shown = mask * 2 ^ at % 2 ^ 64

    shown_in : (k : ℕ) → k < 64 → at ≤ k → k < at + w → bit shown k ≡ stops_at k
    shown_in k l low high = bit-shl_on mask at k low l ∙ mask_in (outside p) bytes at w mask inside e (k - at) k
        (omega arith) (omega arith)

    sound : (k : ℕ) → k < 64 → bit shown k ≡ true → stops_at k ≡ true
    sound k l set = grind (
      arith,
      common_steps,
      cases_lt,
      bit-shl_below,
      shown_in,
      bit-shl_on,
      mask_past (outside p) bytes at w mask inside e,
    )

  -- Holds after reading the bytes before `at` and the bytes from `last` on: `stops` has a bit for each of them that is
  -- outside the class, and only for bytes outside the class.
  pub record Looked (len at last stops : ℕ) : Type 0 where
    pub sound_so_far : (k : ℕ) → k < len → bit stops k ≡ true → stops_at k ≡ true
    pub front : (k : ℕ) → k < len → k < at → stops_at k ≡ true → bit stops k ≡ true
    pub back : (k : ℕ) → k < len → last ≤ k → stops_at k ≡ true → bit stops k ≡ true

  pub looked_last : (len last w mask : ℕ) → last + w ≡ len → len ≤ 64 → len ≤ length bytes
      → mask ≡ mask_l (map (outside p) (chunk last w bytes)) → Looked len 0 last (mask * 2 ^ last % 2 ^ 64)
  looked_last len last w mask sum few inside e = grind (arith, common_steps, sound, shown_in)

  pub looked_on : (len at last stops w mask : ℕ) → Looked len at last stops → len ≤ 64 → at + w ≤ len
      → len ≤ length bytes → mask ≡ mask_l (map (outside p) (chunk at w bytes))
      → Looked len (at + w) last (bit_or stops (mask * 2 ^ at % 2 ^ 64))
  looked_on len at last stops w mask so few room inside e =
      grind (arith, common_steps, or_cases, bit-or, sound, cases_lt, or_right, shown_in)
