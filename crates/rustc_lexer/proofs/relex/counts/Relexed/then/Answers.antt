use Rattle.std.proofs.{Common.{◌+◌, ◌<◌, ◌^◌, ◌≡◌, arith, rules}, lemmas.Grind.{common_steps}}
use Rattle.rustc_lexer.specs.Edits.{count_after}
use Rattle.rustc_lexer.proofs.lemmas.edits.EditSequence.{kept_then}
use Rattle.rustc_lexer.proofs.relex.counts.Relexed.then.Goals as goal

pub returns-clause-kept : goal.returns-clause-kept
returns-clause-kept c old between new old_size between_fits new_fits before next =
    let small : count_after c.args.next < 2 ^ 64 = omega (arith, next.all, new_fits) in
    let sum : c.min-kept_front.result + c.saturating_add-3.result + c.min-kept_back.result ≡ count_after c.args.next =
    grind (arith, common_steps, rules, small) in
    kept_then c.min-kept_front.ensures c.min-kept_back.ensures sum before next
