use Rattle.std.proofs.{Common.{arith}, lemmas.{List.{take_rest}}}
use Rattle.rustc_lexer.proofs.lemmas.tokens.Pairs.{candidate, look_end, look_on, look_start, near}
use Rattle.rustc_lexer.proofs.kernels.skip_apart.Goals as goal

pub looks-init : goal.looks-init
looks-init c = look_start _ _

pub looks-preserved : goal.looks-preserved
looks-preserved c =
    let of = c.probe_of-probe.ensures in
    let stands = candidate _ _ _ _ _ c.args.first c.args.more.now c.looks.left.now of.first of.second of.third of.last
    of.span c.requires _ c.candidates-found.ensures.at in
    look_on _ _ _ c.looks.invariant _ stands (omega arith) _ (omega arith) (take_rest c.looks.left.now 16)

pub returns-then-found-ne0-clause-apart : goal.returns-then-found-ne0-clause-apart
returns-then-found-ne0-clause-apart c =
    let of = c.probe_of-probe.ensures in
    let stands = candidate _ _ _ _ _ c.args.first c.args.more.now c.looks.left.now of.first of.second of.third of.last
    of.span c.requires _ c.candidates-found.ensures.at in
    look_end _ _ _ c.looks.invariant _ stands (omega arith) c.candidates-found.ensures.few

pub returns-then-found-ne0-clause-inside : goal.returns-then-found-ne0-clause-inside
returns-then-found-ne0-clause-inside c =
    let within = near c.candidates-found.result (omega arith) c.candidates-found.ensures.few in
    let inside = c.looks.invariant.inside in
    omega (arith, within, inside)

pub returns-clause-apart : goal.returns-clause-apart
returns-clause-apart c = c.looks.invariant.apart
