-- Model of optional numbers, and of the minimum number that passes a test.
use Rattle.std.specs.Prelude.{ℕ, zero, suc, ◌+◌, Bool, if◌then◌else◌, Option, Some, None}

-- Adds n to the number, if there is one.
abbrev pub more : ℕ → Option ℕ → Option ℕ
more n None = None
more n (Some m) = Some (n + m)

abbrev pub one_more : Option ℕ → Option ℕ
one_more None = None
one_more (Some n) = Some (suc n)

-- Returns the minimum number below `count` that passes the test.
abbrev pub least : (ℕ → Bool) → ℕ → Option ℕ
least test zero = None
least test (suc count) = if test 0 then Some 0 else one_more (least (λ i. test (suc i)) count)
