-- Lemmas about the start and the length of a token, which are written from the last byte to the first.
use Rattle.std.proofs.Common.{◌≡◌, ℕ, ◌+◌, ◌-◌, ◌<◌, ◌≤◌, ◌^◌, List, ◌∷◌, ◌++◌, length, take, drop, ap, ◌∙◌, arith}
use Rattle.std.proofs.Common.{replicate, take_all, length-drop}
use Rattle.std.proofs.lemmas.Grind.{common_steps}
use Rattle.std.specs.Fmt.{decimal}
use Rattle.std.proofs.{Math.Seq.{drop-cons}, lemmas.{Fmt.{length-decimal-le}, List.{get_or-take, get_or-replicate}}}
use Rattle.lexdump_run.specs.Listing.{place_text}

pub short : (n : ℕ) → n < 2 ^ 32 → length (decimal n) ≤ 10
short n small = length-decimal-le 10 n (omega arith) (omega arith) (omega arith)

-- If the length was written at `at`, with a space before and after it, and the start at `from`, the bytes from `from`
-- on are the place.
pub place-written : (start len at from : ℕ) (spaces one two : List ℕ) → spaces ≡ replicate 22 32 → length one ≡ 22
    → 1 ≤ at → at + length (decimal len) ≡ 21 → drop at one ≡ decimal len ++ drop 21 spaces
    → take at one ≡ take at spaces
    → length two ≡ 22 → drop from two ≡ decimal start ++ drop (at - 1) one → take (22 - from) (drop from two) ≡
    place_text start len
place-written start len at from spaces one two blank size after_space end len_at before size_two start_at =
    take_all (22 - from) (drop from two) (omega (arith, length-drop from two)) ∙ start_at
    ∙ ap (λ xs. decimal start ++ xs)
    (space ∙ ap (λ xs. 32 ∷ xs) (len_at ∙ ap (λ xs. decimal len ++ xs) (ap (drop 21) blank)))
  where
    space : drop (at - 1) one ≡ 32 ∷ drop at one
    space = grind (
      arith,
      common_steps,
      drop-cons one (at - 1) 0,
      get_or-take at one (at - 1) 0,
      get_or-take at spaces (at - 1) 0,
      get_or-replicate {A = ℕ} 22 (at - 1) 32 0,
    )
