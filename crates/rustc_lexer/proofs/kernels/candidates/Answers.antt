use Rattle.std.proofs.{Common.{arith, bit_and}, lemmas.{List.{take_rest}, Nat.{and_le_l}}}
use Rattle.rustc_lexer.proofs.lemmas.tokens.Pairs.{all_four, no_first, no_last}
use Rattle.rustc_lexer.proofs.kernels.candidates.Goals as goal

pub returns-then-firsts-eq0-clause-at : goal.returns-then-firsts-eq0-clause-at
returns-then-firsts-eq0-clause-at c =
    no_first _ _ _ _ _ c.args.bytes.now c.places-firsts.result c.places-firsts.ensures.at (omega arith)

pub returns-then-both-eq0-clause-at : goal.returns-then-both-eq0-clause-at
returns-then-both-eq0-clause-at c =
    no_last _ _ _ _ _ c.args.bytes.now c.places-firsts.result c.places-firsts.ensures.at c.places-lasts.result _
    (take_rest c.args.bytes.now c.args.probe.span) c.places-lasts.ensures.at (omega arith)

pub returns-clause-at : goal.returns-clause-at
returns-clause-at c =
    all_four _ _ _ _ _ c.args.bytes.now c.places-firsts.result c.places-firsts.ensures.at c.places-lasts.result _
    (take_rest c.args.bytes.now c.args.probe.span) c.places-lasts.ensures.at
    c.places-seconds.result c.places-thirds.result _ _ (take_rest c.args.bytes.now 1)
    (take_rest c.args.bytes.now 2) c.places-seconds.ensures.at c.places-thirds.ensures.at

pub returns-clause-few : goal.returns-clause-few
returns-clause-few c =
    let both = bit_and c.places-firsts.result c.places-lasts.result in
    omega (
      arith,
      c.places-firsts.ensures.few,
      and_le_l c.places-firsts.result c.places-lasts.result,
      and_le_l both c.places-seconds.result,
      and_le_l (bit_and both c.places-seconds.result) c.places-thirds.result,
    )
