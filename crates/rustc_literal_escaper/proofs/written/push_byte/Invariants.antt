use Rattle.std.specs.{Char.{Escape.{escape_ascii}, Iter.{escape_byte_rest}}, Str.{encode_utf8_all}}
use Rattle.std.specs.String.{string_bytes}
use Rattle.rustc_literal_escaper.proofs.WrittenLemmas.{Writing}
use Rattle.rustc_literal_escaper.proofs.written.push_byte.Given as goal

abbrev pub invariant-loop-part : goal.invariant-loop-part
invariant-loop-part l = Writing (escape_ascii l.fn.byte) (string_bytes l.fn.out) (string_bytes l.out)
    (encode_utf8_all (escape_byte_rest l.part-iterator))
