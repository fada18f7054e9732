use Rattle.std.proofs.Common.{length}
use denote.Text.{Utf8}
use denote.Shadow.{shadow}
use Rattle.std.specs.String.{string_bytes}
use Rattle.rustc_literal_escaper.specs.Written.{written_text}
use Rattle.rustc_literal_escaper.proofs.WrittenLemmas.{Writing}
use Rattle.rustc_literal_escaper.proofs.written.push_text.Given as goal

abbrev pub invariant-chars : goal.invariant-chars
invariant-chars l = shadow (Utf8 l.left) × Writing (written_text l.text) (string_bytes l.fn.out) (string_bytes l.out)
    (written_text l.left)

abbrev pub decreases-chars : goal.decreases-chars
decreases-chars l = length l.left
