use Rattle.std.proofs.{Common.{◌==◌, arith, w8}, lemmas.Simd.{bitmask_splat, length-chunk}}
use Rattle.memchr.specs.Find.{is_byte}
use Rattle.rustc_lexer.proofs.lemmas.tokens.ByteSearch.{in_first}
use Rattle.rustc_lexer.proofs.kernels.find_byte.Goals as goal

pub returns-then-found-ne0 : goal.returns-then-found-ne0
returns-then-found-ne0 c = in_first (is_byte c.args.stop) c.args.bytes.now 64 _ (omega arith) (omega arith)
    (bitmask_splat w8 ◌==◌ _ 64 c.args.stop (length-chunk 0 64 c.args.bytes.now (omega arith)) (omega arith))
    (omega arith)
