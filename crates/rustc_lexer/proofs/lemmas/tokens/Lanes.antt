-- A mask that is computed lane by lane equals a test, if both agree for each of the 256 bytes.
use Rattle.std.proofs.Common.{◌≡◌, ℕ, leb, cond, ◌%◌, ◌^◌, ◌<◌, ◌≤◌, Bool, true, List, [], ◌∷◌, map, length, refl}
use Rattle.std.proofs.Common.{arith, w8, Fits}
use Rattle.std.proofs.lemmas.{Bool.{agree_below, agree_below_at}, Simd.{mask_l-mod}, List.{length-map}}
use lib.Lanes.{mask_l, top, Each1}

each_byte : (f : ℕ → ℕ) (p : ℕ → Bool) → ((x : ℕ) → x < 256 → top 7 (f x) ≡ p x) → (v : List ℕ) → Each1 (Fits w8) v
    → map (top 7) (map f v) ≡ map p v
each_byte f p same [] fits = refl
each_byte f p same (x ∷ xs) fits = cc (same x fits.0.fits, each_byte f p same xs fits.1)

-- The mask of the lanes that f computed is the mask of the test, if both agree for each byte.
pub masked_at : (f : ℕ → ℕ) (p : ℕ → Bool) (v z : List ℕ) → length v ≤ 64 → Each1 (Fits w8) v → z ≡ map f v
    → ((x : ℕ) → x < 256 → top 7 (f x) ≡ p x)
    → mask_l (map (top 7) z) % 2 ^ 64 ≡ mask_l (map p v)
masked_at f p v z short fits e same =
    rw (e, each_byte f p same v fits) (mask_l-mod (map p v) 64 (omega (arith, length-map v p)))

pub masked : (f : ℕ → ℕ) (p : ℕ → Bool) (v z : List ℕ) → length v ≤ 64 → Each1 (Fits w8) v → z ≡ map f v
    → agree_below (λ x. top 7 (f x)) p 256 ≡ true
    → mask_l (map (top 7) z) % 2 ^ 64 ≡ mask_l (map p v)
masked f p v z short fits e all =
    masked_at f p v z short fits e (λ x l. agree_below_at (λ y. top 7 (f y)) p 256 x all l)

-- Returns one lane of `simd_ge` of a splat and a vector.
abbrev pub least : ℕ → ℕ → ℕ
least a b = cond (leb a b) 255 0
