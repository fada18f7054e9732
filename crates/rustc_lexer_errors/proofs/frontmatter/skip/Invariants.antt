use Rattle.std.proofs.Common.{ℕ, Bool, ◌≡◌, length}
use Rattle.std.specs.Str.{chars}
use denote.Shadow.{shadow}
use denote.Text.{Utf8}
use Rattle.rustc_lexer_errors.specs.model.Frontmatter.{past_run}
use Rattle.rustc_lexer_errors.proofs.frontmatter.skip.Given as goal

abbrev pub invariant-chars : goal.invariant-chars
invariant-chars g l = shadow (Utf8 l.left)
    × ((class : ℕ → Bool) → ((c : ℕ) (b : Bool) → goal.F-post g l.test c b → b ≡ class c)
    → past_run class (chars l.left) ≡ past_run class (chars l.text))

abbrev pub decreases-chars : goal.decreases-chars
decreases-chars g l = length l.left
