use Rattle.std.proofs.Common.{ℕ, ◌==◌, bit_or, arith, rules, w8}
use Rattle.std.proofs.lemmas.Simd.{chunk-fits, length-chunk, zip2_splat, zip2_of_maps}
use Rattle.memchr.specs.Find.{is_byte2}
use Rattle.rustc_lexer.proofs.lemmas.tokens.{ByteSearch.{in_first, either_set}, Lanes.{masked_at}}
use Rattle.rustc_lexer.proofs.kernels.find_either.Goals as goal

pub returns-then-found-ne0 : goal.returns-then-found-ne0
returns-then-found-ne0 c =
    let long = length-chunk 0 16 c.args.bytes.now (omega arith) in
    in_first (is_byte2 c.args.one c.args.two) c.args.bytes.now 16 _ (omega arith) (omega arith)
    (masked_at _ (is_byte2 c.args.one c.args.two) _ _ (omega arith) (chunk-fits w8 0 16 c.args.bytes.now (search rules))
    (zip2_of_maps bit_or _ _ _ (zip2_splat {Y = ℕ} _ _ 16 c.args.one long) (zip2_splat {Y = ℕ} _ _ 16 c.args.two long))
    (λ x l. either_set (x == c.args.one) (x == c.args.two))) (omega arith)
