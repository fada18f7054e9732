use Rattle.std.specs.{Char.{Escape.{escape_default}, Iter.{escape_rest}}, Str.{encode_utf8_all}, String.{string_bytes}}
use Rattle.rustc_literal_escaper.proofs.WrittenLemmas.{Writing}
use Rattle.rustc_literal_escaper.proofs.written.push_char.Given as goal

abbrev pub invariant-loop-part : goal.invariant-loop-part
invariant-loop-part l = Writing (escape_default l.fn.c) (string_bytes l.fn.out) (string_bytes l.out)
    (encode_utf8_all (escape_rest l.part-iterator))
