use Rattle.std.proofs.Common.{◌≡◌, true, take}
use Rattle.std.specs.List.{list_all}
use Rattle.rustc_literal_escaper.specs.model.Plain.{is_simple}
use Rattle.rustc_literal_escaper.proofs.simple.is_short_and_simple.Given as goal

abbrev pub invariant-loop-byte : goal.invariant-loop-byte
invariant-loop-byte l = list_all (is_simple true) (take l.byte-index l.bytes) ≡ true
