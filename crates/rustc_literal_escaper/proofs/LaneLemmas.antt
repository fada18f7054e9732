-- A run of bytes that pass a test, searched one vector at a time by the mask of the bytes that fail it.
use Rattle.std.proofs.Common.{◌≡◌, ℕ, zero, suc, leb, cond, eqb, ◌+◌, ◌*◌, ◌%◌, ◌^◌, ◌<◌, ◌≤◌, Bool, true, not, List}
use Rattle.std.proofs.Common.{[], ◌∷◌, map, length, take, drop, refl, sym, ap, ap₂, ◌∙◌, arith, w8, Fits}
use Rattle.std.specs.List.{list_all, prefix_len}
use Rattle.std.proofs.lemmas.Bool.{agree_below, agree_below_at, eq-eqb, ne_eqb}
use Rattle.std.proofs.lemmas.Simd.{chunk-drop, length-chunk, leading_from_mask_l, mask_l-mod, trailing_mask_l}
use Rattle.std.proofs.lemmas.List.{length-drop, length-map, Folds.{prefix_len-append}, Sums.{prefix_len-le-length}}
use Rattle.std.proofs.{Math.Bool.{not-not}, lemmas.Grind.{common_steps}}
use lib.Lanes.{chunk, mask_l, top, Each1}
use lib.Count.{count_trailing_zeros}

each_byte : (f : ℕ → ℕ) (p : ℕ → Bool) → agree_below (λ x. top 7 (f x)) p 256 ≡ true → (v : List ℕ) → Each1 (Fits w8) v
    → map (top 7) (map f v) ≡ map p v
each_byte f p all [] fits = refl
each_byte f p all (x ∷ xs) fits = ap₂ (λ a b. a ∷ b) (agree_below_at (λ y. top 7 (f y)) p 256 x all fits.0.fits)
    (each_byte f p all xs fits.1)

-- If f and the test agree on each byte, the mask of the lanes of f is the mask of the test.
pub masked : (f : ℕ → ℕ) (p : ℕ → Bool) (v z : List ℕ) → length v ≤ 64 → Each1 (Fits w8) v → z ≡ map f v
    → agree_below (λ x. top 7 (f x)) p 256 ≡ true
    → mask_l (map (top 7) z) % 2 ^ 64 ≡ mask_l (map p v)
masked f p v z short fits e all =
    ap (λ l. mask_l l % 2 ^ 64) (ap (map (top 7)) e ∙ each_byte f p all v fits)
    ∙ mask_l-mod (map p v) 64 (omega (arith, length-map v p))

-- `simd_ge` of a vector with a splat. The splat is the first argument.
abbrev pub least : ℕ → ℕ → ℕ
least a b = cond (leb a b) 255 0

pub run_bound : (q : ℕ → Bool) (d : List ℕ) (i : ℕ) → i ≤ length d → i + prefix_len q (drop i d) ≤ length d
run_bound q d i h = omega (arith, prefix_len-le-length q (drop i d), length-drop i d)

none_fails : (b : Bool) (n l m : ℕ) → n ≤ l → cond b (1 + n) 0 ≡ 1 + l → (n ≡ l → m ≡ 0) → cond (not b) 1 0 + 2 * m ≡ 0
none_fails b n l m le e ih = grind (arith, common_steps)

module _ (q : ℕ → Bool) where
  abbrev fails : ℕ → Bool
  fails x = not (q x)

  twice : (xs : List ℕ) → prefix_len (λ x. not (fails x)) xs ≡ prefix_len q xs
  twice xs = grind (arith, common_steps, not-not)

  all_pass : (xs : List ℕ) → prefix_len q xs ≡ length xs → mask_l (map fails xs) ≡ 0
  all_pass [] e = refl
  all_pass (x ∷ xs) e = none_fails (q x) _ (length xs) _ (prefix_len-le-length q xs) (omega arith) (all_pass xs)

  split : (d : List ℕ) (i n : ℕ)
      → prefix_len q (drop i d) ≡ cond (eqb (prefix_len q (chunk i n d)) (length (chunk i n d)))
      (length (chunk i n d) + prefix_len q (drop (i + n) d)) (prefix_len q (chunk i n d))
  split d i n = ap (prefix_len q) (chunk-drop i n d) ∙ prefix_len-append q (chunk i n d) (drop (i + n) d)

  pub run_through : (d : List ℕ) (i n : ℕ) → i + n ≤ length d → mask_l (map fails (chunk i n d)) ≡ 0
      → prefix_len q (drop i d) ≡ n + prefix_len q (drop (i + n) d)
  run_through d i n room none =
      let c = chunk i n d in
      split d i n ∙ ap (λ b. cond b (length c + prefix_len q (drop (i + n) d)) (prefix_len q c))
      (eq-eqb _ _ (sym (twice c) ∙ leading_from_mask_l fails c none))
      ∙ ap (λ k. k + prefix_len q (drop (i + n) d)) (length-chunk i n d room)

  pub run_stops : (d : List ℕ) (i n : ℕ) → i + n ≤ length d → n ≤ 64 → 0 < mask_l (map fails (chunk i n d))
      → prefix_len q (drop i d) ≡ count_trailing_zeros 64 (mask_l (map fails (chunk i n d)))
  run_stops d i n room short some =
      grind (
        arith,
        common_steps,
        chunk i n d,
        split d i n,
        ne_eqb,
        twice (chunk i n d),
        trailing_mask_l,
        all_pass,
        length-chunk,
      )

  -- A prefix of the run passes the test.
  pub run_front : (d : List ℕ) (n : ℕ) → n ≤ prefix_len q d → list_all q (take n d) ≡ true
  run_front d zero le = refl
  run_front [] (suc n) le = refl
  run_front (x ∷ xs) (suc n) le = grind (arith, common_steps, run_front xs n)
