-- The table agrees with the class at each of the 256 bytes, by computation.
use Rattle.std.proofs.Common.{nat_eq, not, slice_index_or, refl, arith}
use Rattle.std.proofs.lemmas.Bool.{agree_below_at}
use Rattle.rustc_lexer.specs.{declared.kernels.TheConstants.{CONTINUES}, model.ByteRuns.{is_continue_byte}}
use Rattle.rustc_lexer.proofs.kernels.ContinueByteClass.has.Goals as goal

pub returns : goal.returns
returns c = agree_below_at (λ b. not (nat_eq (slice_index_or CONTINUES b 0) 46)) is_continue_byte 256 c.args.byte refl
    (omega arith)
