use Rattle.std.proofs.Common.{List, ℕ, bit_and, refl, arith, rules, w8}
use Rattle.std.proofs.lemmas.Simd.{chunk-fits, length-chunk, zip2_splat, zip2_of_maps, splat_is_map}
use lib.Lanes.{chunk}
use Rattle.rustc_lexer.specs.model.ByteRuns.{outside, is_space_byte}
use Rattle.rustc_lexer.proofs.lemmas.tokens.Lanes.{least, masked}
use Rattle.rustc_lexer.proofs.kernels.SpaceByteClass.stops.Goals as goal

pub returns : goal.returns
returns c =
    let v : List ℕ = chunk 0 16 c.args.bytes.now in
    let long = length-chunk 0 16 c.args.bytes.now (omega (arith, c.requires)) in
    masked _ (outside is_space_byte) v _ (omega arith) (chunk-fits w8 0 16 c.args.bytes.now (search rules))
    (zip2_of_maps bit_and _ _ v (zip2_splat {Y = ℕ} _ v 16 32 long)
    (zip2_of_maps least _ _ v (splat_is_map {Y = ℕ} v 16 5 long) (zip2_splat {Y = ℕ} _ v 16 9 long))) refl
