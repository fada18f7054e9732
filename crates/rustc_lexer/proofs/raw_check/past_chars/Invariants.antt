use Rattle.std.proofs.Common.{◌≡◌}
use denote.Text.{Utf8}
use denote.Shadow.{shadow}
use Rattle.rustc_lexer.specs.model.Scan.{past}
use Rattle.rustc_lexer.proofs.raw_check.past_chars.Given as goal

abbrev pub invariant-chars : goal.invariant-chars
invariant-chars l = shadow (Utf8 l.rest) × (past l.left l.rest ≡ past l.count l.text)

abbrev pub decreases-chars : goal.decreases-chars
decreases-chars l = l.left
