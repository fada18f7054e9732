use Rattle.std.proofs.{Common.{refl}, lemmas.List.{nil_from_length}}
use Rattle.rustc_literal_escaper.proofs.strings.each_ascii.Goals as goal

pub returns-clause-calls : goal.returns-clause-calls
returns-clause-calls g c = c.run.invariant.3 c.run.callback (rw (nil_from_length c.run.left.now c.in_default.ensures.cases) refl)
