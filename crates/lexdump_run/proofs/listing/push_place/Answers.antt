use Rattle.std.proofs.Common.{◌≡◌, ◌≤◌, ◌+◌, length, refl, arith}
use Rattle.std.specs.Fmt.{decimal}
use Rattle.lexdump_run.proofs.PlaceLemmas.{short, place-written}
use Rattle.lexdump_run.proofs.listing.push_place.Goals as goal

pub returns : goal.returns
returns g c =
    let one : length c.write_digits-len_at.new.buf ≡ 22 = omega arith in
    let two : length c.write_digits-start_at.new.buf ≡ 22 = omega arith in
    let few : length (decimal c.from.result) ≤ 10 = short c.from.result (rw c.from.ensures c.ranges.len.fits) in
    let at : c.write_digits-len_at.result + length (decimal c.from.result) ≡ 21 = c.write_digits-len_at.ensures.start in
    let is = place-written c.from-2.result c.from.result _ _ _ _ _ refl one
    (omega arith) at c.write_digits-len_at.ensures.written c.write_digits-len_at.ensures.before two
    c.write_digits-start_at.ensures.written in
    rw (is, c.from-2.ensures, c.from.ensures) at c.push_bytes.ensures
