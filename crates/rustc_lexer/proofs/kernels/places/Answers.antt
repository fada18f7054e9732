use Rattle.std.proofs.{Common.{◌==◌, arith, w8}, lemmas.Simd.{bitmask_splat, length-chunk}}
use Rattle.memchr.specs.Find.{is_byte}
use Rattle.rustc_lexer.proofs.lemmas.tokens.{Pairs.{few}, Bits.{mask_in}}
use Rattle.rustc_lexer.proofs.kernels.places.Goals as goal

pub returns-clause-few : goal.returns-clause-few
returns-clause-few c =
    few (is_byte c.args.byte) c.args.bytes.now _ c.requires
    (bitmask_splat w8 ◌==◌ _ 16 c.args.byte (length-chunk 0 16 c.args.bytes.now (omega (arith, c.requires)))
    (omega arith))

pub returns-clause-at : goal.returns-clause-at
returns-clause-at c = λ k l. mask_in (is_byte c.args.byte) c.args.bytes.now 0 16 _ c.requires
    (bitmask_splat w8 ◌==◌ _ 16 c.args.byte (length-chunk 0 16 c.args.bytes.now (omega (arith, c.requires)))
    (omega arith)) k k (omega arith) l
