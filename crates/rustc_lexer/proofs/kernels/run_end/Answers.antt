use Rattle.std.proofs.Common.{sym, arith}
use Rattle.std.proofs.lemmas.List.Sums.{prefix_len-le-length}
use Rattle.rustc_lexer.proofs.lemmas.tokens.Kernels.{run_stops}
use Rattle.rustc_lexer.proofs.kernels.run_end.Goals as goal

pub returns-clause-value : goal.returns-clause-value
returns-clause-value g c =
    let fits = g.C.ByteClass.width_fits in
    rw c.stops-stops.ensures (sym (run_stops g.C.ByteClass.passes c.args.bytes.now 0 g.C.ByteClass.WIDTH (omega arith)
    fits.1 (omega (arith, c.stops-stops.ensures))))

pub returns-clause-inside : goal.returns-clause-inside
returns-clause-inside g c = let run = returns-clause-value g c in
    omega (arith, run, prefix_len-le-length g.C.ByteClass.passes c.args.bytes.now)
