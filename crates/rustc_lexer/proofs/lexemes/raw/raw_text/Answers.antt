use Rattle.std.proofs.{lemmas.Grind.{common_steps}, Common.{rules, arith}}
use Rattle.rustc_lexer.proofs.lemmas.tokens.Raw.{search_start, search_on, search_more, may_cut, closed_here}
use Rattle.rustc_lexer.proofs.lemmas.tokens.Raw.{never_closed}
use Rattle.rustc_lexer.proofs.lexemes.raw.raw_text.Goals as goal

pub loop-tail-init : goal.loop-tail-init
loop-tail-init c = (c.utf8.text, search_start _ _ _ c.utf8.text)

pub range_from-requires : goal.range_from-requires
range_from-requires c =
    λ some. may_cut _ _ _ _ _ _ _ _ c.utf8.text c.loop-tail.invariant.1 c.in-Some.ensures.0 c.in-Some.ensures.1
    c.eat_hashes-past_hashes.ensures.past c.if-hashes-n_hashes.true

pub returns-then-hashes-n_hashes : goal.returns-then-hashes-n_hashes
returns-then-hashes-n_hashes c =
    closed_here _ _ _ _ _ _ _ _ c.utf8.text c.loop-tail.invariant.1 c.in-Some.ensures.0 c.in-Some.ensures.1
    c.eat_hashes-past_hashes.ensures.past c.if-hashes-n_hashes.true _ _ c.hash_count.ensures c.range_from.ensures.value

pub loop-tail-preserved-then-hashes-found : goal.loop-tail-preserved-then-hashes-found
loop-tail-preserved-then-hashes-found c = grind (arith, common_steps, rules, search_more)

pub loop-tail-preserved : goal.loop-tail-preserved
loop-tail-preserved c = grind (arith, common_steps, rules, search_on)

pub returns : goal.returns
returns c = never_closed _ _ _ _ _ _ c.loop-tail.invariant.1 c.in_default.ensures
