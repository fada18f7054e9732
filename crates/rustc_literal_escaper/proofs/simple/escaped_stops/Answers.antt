use Rattle.std.proofs.{Common.{ℕ, false, bit_or, refl, arith}, lemmas.Simd.{zip2_splat, zip2_of_maps, splat_is_map}}
use Rattle.rustc_literal_escaper.specs.model.Plain.{is_stop}
use Rattle.rustc_literal_escaper.proofs.LaneLemmas.{least, masked}
use Rattle.rustc_literal_escaper.proofs.simple.escaped_stops.Goals as goal

pub returns : goal.returns
returns c =
    let v = c.args.v in
    let long = c.fits-v.0 in
    masked _ (is_stop false) v _ (omega arith) c.fits-v.1
    (zip2_of_maps bit_or _ _ v
    (zip2_of_maps bit_or _ _ v
    (zip2_of_maps bit_or _ _ v
    (zip2_of_maps least _ _ v (splat_is_map {Y = ℕ} v 32 _ long) (zip2_splat {Y = ℕ} _ v 32 _ long))
    (zip2_splat {Y = ℕ} _ v 32 _ long)) (zip2_splat {Y = ℕ} _ v 32 _ long)) (zip2_splat {Y = ℕ} _ v 32 _ long)) refl
