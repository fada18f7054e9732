use Rattle.rustc_literal_escaper.proofs.RunLemmas.{cut-simple}
use Rattle.rustc_literal_escaper.proofs.simple.split_simple.Goals as goal

pub range_from-requires : goal.range_from-requires
range_from-requires c = λ some. cut-simple c.args.raw c.args.text.now c.simple_end-end.result c.utf8.text (rw (c.as_bytes.ensures.value) at c.simple_end-end.ensures.inside) (rw (c.as_bytes.ensures.value) at c.simple_end-end.ensures.simple)
