-- Model of the search in the table of emoji.
use Rattle.std.specs.{Prelude.{ℕ, Bool, ◌&&◌, nat_le, nat_lt, if◌then◌else◌, List}, declared.cmp.Ordering.{Ordering}}
use Rattle.std.specs.{declared.cmp.Ordering.TheVariants.{Less, Equal, Greater}, List.{list_any}}

-- The type `Range` is a range of characters, with both ends included.
abbrev pub Range : Type 0
Range = ℕ × ℕ

abbrev pub is_within : Range → ℕ → Bool
is_within r c = nat_le r.0 c && nat_le c r.1

abbrev pub in_ranges : List Range → ℕ → Bool
in_ranges rs c = list_any (λ r. is_within r c) rs

-- Returns how a range compares with the character: it is before the character, after it, or contains it.
abbrev pub side : ℕ → Range → Ordering
side c r = if nat_lt r.1 c then Less else (if nat_lt c r.0 then Greater else Equal)
