use Rattle.std.proofs.Common.{◌≡◌, ◌≤◌, length}
use denote.Text.{Utf8}
use denote.Shadow.{shadow}
use Rattle.rustc_lexer.specs.model.{Quoted.{double_quoted_string}, Scan.{scanned}}
use Rattle.rustc_lexer.proofs.lexemes.quoted.double_quoted_string.Given as goal

abbrev pub invariant-quoted : goal.invariant-quoted
invariant-quoted l = shadow (Utf8 l.rest) × (scanned double_quoted_string l.rest ≡ scanned double_quoted_string l.body)
    × (length l.rest ≤ length l.body)

abbrev pub decreases-quoted : goal.decreases-quoted
decreases-quoted l = length l.rest
