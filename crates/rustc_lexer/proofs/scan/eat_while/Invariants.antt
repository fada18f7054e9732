use Rattle.std.proofs.Common.{ℕ, Bool, ◌≡◌, ◌≤◌, length}
use Rattle.std.specs.Str.{chars}
use denote.Text.{Utf8}
use denote.Shadow.{shadow}
use Rattle.rustc_lexer.specs.model.Scan.{past, run_len}
use Rattle.rustc_lexer.proofs.scan.eat_while.Given as goal

abbrev pub invariant-chars : goal.invariant-chars
invariant-chars g l = shadow (Utf8 l.left) × (length l.left ≤ length l.rest)
    × ((class : ℕ → Bool) → ((c : ℕ) (b : Bool) → goal.F-post g l.test c b → b ≡ class c)
    → past (run_len class (chars l.left)) l.left ≡ past (run_len class (chars l.rest)) l.rest)

abbrev pub decreases-chars : goal.decreases-chars
decreases-chars g l = length l.left
