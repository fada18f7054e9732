-- The token at an offset: steps from a token boundary, and the tokens that overlap a range of bytes.
use Rattle.std.proofs.Common.{◌≡◌, ℕ, ◌+◌, ◌-◌, ◌^◌, ◌<◌, ◌≤◌, ◌↔◌, List, length, map, get_or, ap, arith, Option, None}
use Rattle.std.proofs.Common.{Some, IfSome, IsSome, IsNone}
use Rattle.std.proofs.lemmas.{Bool.{cases_lt}, Grind.{common_steps}}
use Rattle.rustc_lexer.specs.{declared.relex.boundary.TokenStart.{TokenStart}, Token}
use Rattle.rustc_lexer.specs.Offsets.{AreTouched, ArePlaced, ContainsByte}
use Rattle.rustc_lexer.specs.Tokens.{bound}
use Rattle.rustc_lexer.proofs.lemmas.edits.{Bounds.{bound_mono}, ByLengths.{as_long, as_many, no_token}}
use Rattle.rustc_lexer.proofs.lemmas.edits.KeptFront.{bound-next}

-- One token back.
module _ (tokens : List Token) (first n here : ℕ) (d : Token) (is : here ≡ first + bound tokens n) (some : 0 < n)
    (few : n ≤ length tokens) where
  pub back_is : here - (get_or tokens (n - 1) d).len ≡ first + bound tokens (n - 1)
  back_is = grind (arith, common_steps, bound-next)

-- One token forward.
module _ (tokens : List Token) (first n here : ℕ) (d : Token) (is : here ≡ first + bound tokens n)
    (few : n < length tokens) where
  pub ahead_is : here + (get_or tokens n d).len ≡ first + bound tokens (n + 1)
  ahead_is = omega (arith, is, bound-next tokens n d few)

  pub ahead_fits : first + bound tokens (length tokens) < 2 ^ 32 → (most : ℕ) → 2 ^ 32 ≤ most
      → here + (get_or tokens n d).len < most
  ahead_fits fits most le = omega (arith, ahead_is, fits, le, bound_mono tokens (n + 1) (length tokens) (omega arith))

-- The same, if only the lengths of the tokens are known.
module _ {X : Type 0} (f : X → ℕ) (xs : List X) (first : ℕ) (tokens : List Token) (at : TokenStart)
    (is : ArePlaced (map f xs) first tokens at) where
  pub many : length xs ≡ length tokens
  many = as_many f xs tokens is.lengths_are

  pub back : (x : X) (len : ℕ) → len ≡ f x → x ≡ get_or xs (at.index - 1) x → 0 < at.index
      → ArePlaced (map f xs) first tokens (record { index = at.index - 1; offset = at.offset - len })
  back x len len_is x_is some = record {
    lengths_are = is.lengths_are;
    number = omega (arith, is.number);
    offset = rw (as_long f xs tokens is.lengths_are (at.index - 1) x len len_is x_is (omega (arith, is.number, many)))
        (back_is tokens first at.index at.offset no_token is.offset some is.number);
  }

  pub ahead : (x : X) (len : ℕ) → len ≡ f x → x ≡ get_or xs at.index x → at.index < length xs
      → ArePlaced (map f xs) first tokens (record { index = at.index + 1; offset = at.offset + len })
  ahead x len len_is x_is few = record {
    lengths_are = is.lengths_are;
    number = omega (arith, many);
    offset = rw (as_long f xs tokens is.lengths_are at.index x len len_is x_is few)
        (ahead_is tokens first at.index at.offset no_token is.offset (omega (arith, many)));
  }

  -- The token that starts there contains the byte.
  pub contains : (x : X) (len offset : ℕ) → len ≡ f x → x ≡ get_or xs at.index x → at.index < length xs
      → at.offset ≤ offset → offset - at.offset < len → ContainsByte first tokens offset at
  contains x len offset len_is x_is few begun ends = record {
    number = omega (arith, many);
    start = is.offset;
    begins = begun;
    ends = omega (arith, (ahead x len len_is x_is few).offset);
  }

  -- After the last token there are no bytes, and before the first one there were none.
  pub past_all : (offset : ℕ) → length xs ≤ at.index → at.offset ≤ offset
      → first + bound tokens (length tokens) ≤ offset
  past_all offset last begun =
      let here : length tokens ≡ at.index = omega (arith, is.number, many) in rw here (omega (arith, is.offset))

  pub before_all : (offset : ℕ) → at.index ≡ 0 → offset < at.offset → first ≤ offset → ⊥
  before_all offset none ahead le = omega (arith, is.offset, ap (bound tokens) none)

module _ (first : ℕ) (tokens : List Token) (offset : ℕ) (at : TokenStart)
    (has : ContainsByte first tokens offset at) where
  -- A token ends at or before the offset exactly if it comes before the token at the offset.
  pub ended : (k : ℕ) → k < at.index → first + bound tokens (k + 1) ≤ offset
  ended k less = omega (arith, has.start, has.begins, bound_mono tokens (k + 1) at.index (omega arith))

  pub not_ended : (k : ℕ) → at.index ≤ k → offset < first + bound tokens (k + 1)
  not_ended k le = omega (arith, has.ends, bound_mono tokens (at.index + 1) (k + 1) (omega arith))

  -- A token starts before the next offset exactly if it does not come after the token at the offset.
  pub begun : (k : ℕ) → k < at.index + 1 → first + bound tokens k ≤ offset
  begun k less = omega (arith, has.start, has.begins, bound_mono tokens k at.index (omega arith))

  pub not_begun : (k : ℕ) → at.index + 1 ≤ k → offset < first + bound tokens k
  not_begun k le = omega (arith, has.ends, bound_mono tokens (at.index + 1) k le)

-- The tokens that end after the start of the range and start before its end overlap the range.
pub touched_from : (first : ℕ) (tokens : List Token) (start stop from to : ℕ) → start < stop → from ≤ length tokens
    → to ≤ length tokens → ((k : ℕ) → k < from → first + bound tokens (k + 1) ≤ start)
    → ((k : ℕ) → from ≤ k → k < length tokens → start < first + bound tokens (k + 1))
    → ((k : ℕ) → k < to → first + bound tokens k < stop)
    → ((k : ℕ) → to ≤ k → k < length tokens → stop ≤ first + bound tokens k)
    → AreTouched first tokens start stop from to
touched_from first tokens start stop from to some few inside ended later begun after =
    grind (arith, common_steps, ended, begun, cases_lt, bound_mono)

-- A token is found exactly if the offset is within the tokens.
pub answered : (result : Option TokenStart) (first : ℕ) (tokens : List Token) (offset len : ℕ)
    → first + bound tokens (length tokens) ≡ len → IfSome result (ContainsByte first tokens offset)
    → (IsNone result → first ≤ offset → len ≤ offset) → IsSome result ↔ ((first ≤ offset) × (offset < len))
answered result first tokens offset len w5 w6 w7 = grind (arith, common_steps, bound_mono)

-- A token that was found is correct for all tokens with these lengths.
pub if_some : {lengths : List ℕ} {first : ℕ} {tokens : List Token} {near : TokenStart} (offset : ℕ)
    (result : Option TokenStart)
    → IfSome result (λ at. (first : ℕ) (ts : List Token) → ArePlaced lengths first ts near
    → ContainsByte first ts offset at)
    → ArePlaced lengths first tokens near → IfSome result (ContainsByte first tokens offset)
if_some offset None found placed = found
if_some {first = first} {tokens = tokens} offset (Some at) found placed = found first tokens placed
