use Rattle.rustc_literal_escaper.proofs.RunLemmas.{level_table}
use Rattle.rustc_literal_escaper.proofs.simple.simple_level.Goals as goal

pub returns : goal.returns
returns c = level_table c.args.byte _ c.ranges.byte.fits
