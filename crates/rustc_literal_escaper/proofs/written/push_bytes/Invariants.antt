use Rattle.std.proofs.Common.{drop}
use Rattle.std.specs.String.{string_bytes}
use Rattle.rustc_literal_escaper.specs.Written.{written_bytes}
use Rattle.rustc_literal_escaper.proofs.WrittenLemmas.{Writing}
use Rattle.rustc_literal_escaper.proofs.written.push_bytes.Given as goal

abbrev pub invariant-loop-byte : goal.invariant-loop-byte
invariant-loop-byte l = Writing (written_bytes l.bytes) (string_bytes l.fn.out) (string_bytes l.out)
    (written_bytes (drop l.byte-index l.bytes))
