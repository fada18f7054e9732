use Rattle.std.proofs.Common.{◌≡◌, ◌-◌, length, arith}
use Rattle.std.specs.List.{slice_index}
use Rattle.rustc_literal_escaper.proofs.WholeLemmas.{number_whole}
use Rattle.rustc_literal_escaper.proofs.single.whole_escape.Goals as goal

pub returns-in-92 : goal.returns-in-92
returns-in-92 c =
    let bytes = c.as_bytes.result.now in
    let slash : slice_index bytes 0 ≡ 92 = grind arith in
    let letter : slice_index bytes 1 ≡ 117 = grind arith in
    let brace : slice_index bytes 2 ≡ 123 = grind arith in
    let close : slice_index bytes (length bytes - 1) ≡ 125 = grind arith in
    rw (c.as_bytes.ensures.value) at
    (number_whole bytes c.whole_number.result c.in-92.len_at_least slash letter brace close c.whole_number.ensures)
