use Rattle.std.proofs.Common.{◌≡◌, ◌≤◌, length}
use denote.Text.{Utf8}
use denote.Shadow.{shadow}
use Rattle.rustc_lexer.specs.model.{Quoted.{quoted_from, at_single_stop, single_quoted_string}, Scan.{scanned}}
use Rattle.rustc_lexer.proofs.lexemes.quoted.single_quoted_string.Given as goal

abbrev pub invariant-loop-c : goal.invariant-loop-c
invariant-loop-c l = shadow (Utf8 l.rest)
    × (scanned (quoted_from 39 at_single_stop l.escaped) l.rest ≡ scanned single_quoted_string l.body) ×
    (length l.rest ≤ length l.body)

abbrev pub decreases-loop-c : goal.decreases-loop-c
decreases-loop-c l = length l.rest
