-- A run of bytes that pass q, read one vector at a time, with a mask of the bytes that fail.
use Rattle.std.proofs.Common.{◌≡◌, ℕ, zero, suc, ◌+◌, ◌<◌, ◌≤◌, Bool, true, false, List, map, length, length-drop, drop}
use Rattle.std.proofs.Common.{get_or, refl, sym, ap, ◌∙◌, arith}
use Rattle.std.proofs.lemmas.List.{take_rest, Sums.{prefix_len-le-length, prefix_len-drop_yes, prefix_len-drop_no}}
use Rattle.std.proofs.lemmas.Bool.{not-true, not-false}
use Rattle.std.specs.List.{prefix_len}
use Rattle.rustc_lexer.specs.model.{ByteRuns.{outside}, Ends.{bit}}
use Rattle.rustc_lexer.proofs.lemmas.tokens.Bits.{bit-zero, mask_in, mask_lowest}
use lib.Lanes.{chunk, mask_l}
use lib.Count.{count_trailing_zeros}

pub run_bound : (q : ℕ → Bool) (d : List ℕ) (i : ℕ) → i ≤ length d → i + prefix_len q (drop i d) ≤ length d
run_bound q d i h = omega (arith, prefix_len-le-length q (drop i d), length-drop i d)

-- Bytes that pass belong to the run.
through : (q : ℕ → Bool) (d : List ℕ) (i n : ℕ) → i + n ≤ length d → ((k : ℕ) → k < n → q (get_or d (i + k) 0) ≡ true)
    → prefix_len q (drop i d) ≡ n + prefix_len q (drop (i + n) d)
through q d i zero room all = let e : i ≡ i + 0 = omega arith in omega (arith, ap (λ k. prefix_len q (drop k d)) e)
through q d i (suc n) room all =
    let e : i + n + 1 ≡ i + suc n = omega arith in
    omega (
      arith,
      through q d i n (omega arith) (λ k l. all k (omega arith)),
      prefix_len-drop_yes q d (i + n) 0 (omega arith)
          (all n (omega arith)),
      ap (λ k. prefix_len q (drop k d)) e,
    )

module _ (q : ℕ → Bool) (d : List ℕ) (i n : ℕ) (room : i + n ≤ length d) where
  abbrev stops : ℕ
  stops = mask_l (map (outside q) (chunk i n d))

  passes : (k : ℕ) → k < n → bit stops k ≡ false → q (get_or d (i + k) 0) ≡ true
  passes k l none = not-false _ (cc (mask_in (outside q) d i n stops room refl k (i + k) refl l))

  pub run_through : stops ≡ 0 → prefix_len q (drop i d) ≡ n + prefix_len q (drop (i + n) d)
  run_through none = through q d i n room (λ k l. passes k l (rw none (bit-zero k)))

  pub run_stops : n ≤ 64 → 0 < stops → prefix_len q (drop i d) ≡ count_trailing_zeros 64 stops
  run_stops short some =
      let low = mask_lowest (outside q) d i n stops room refl short some in
      let ends : q (get_or d (i + count_trailing_zeros 64 stops) 0) ≡ false = not-true _
      (sym (mask_in (outside q) d i n stops room refl _ _ refl low.0) ∙ low.1.set) in
      omega (
        arith,
        through q d i _ (omega arith) (λ k l. passes k (omega arith) (low.1.least k l)),
        prefix_len-drop_no q d _ 0 (omega arith) ends,
      )

pub ruleset run_lemmas = (take_rest, run_bound, run_through, run_stops, prefix_len-le-length)
