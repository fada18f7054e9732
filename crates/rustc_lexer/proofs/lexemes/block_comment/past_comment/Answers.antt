use Rattle.std.proofs.{lemmas.Grind.{common_steps}, Common.{rules, ◌-◌, arith}}
use Rattle.rustc_lexer.proofs.lemmas.tokens.BlockCommentLoop.{start, open_at_end, closed, closed_one, opened_one}
use Rattle.rustc_lexer.proofs.lemmas.tokens.BlockCommentLoop.{star_alone, slash_alone}
use Rattle.rustc_lexer.proofs.lexemes.block_comment.past_comment.Goals as goal

pub comment-init : goal.comment-init
comment-init c = (c.utf8.body, start _ c.utf8.body, omega arith, omega arith)

pub returns-in_default : goal.returns-in_default
returns-in_default c =
    open_at_end _ _ _ _ c.comment.invariant.2 c.comment.invariant.1 c.eat_until_either-stop.ensures.past
    c.in_default.ensures

pub returns-then-depth-eq0 : goal.returns-then-depth-eq0
returns-then-depth-eq0 c =
    let at = closed_one _ _ _ _ c.comment.invariant.2 c.comment.invariant.1 c.eat_until_either-stop.ensures.past _ _
    c.in-Some.ensures.0 c.in-Some.ensures.1 _ (c.comment.depth - 1) c.if-c-eq42.true c.in-Some-strip.ensures.0
    c.in-Some-strip.ensures.1 (omega (arith, c.comment.invariant.2)) in
    closed _ _ _ at c.if-depth-eq0.true

pub comment-preserved-in-Some-strip : goal.comment-preserved-in-Some-strip
comment-preserved-in-Some-strip c = grind (arith, common_steps, rules, closed_one)

pub comment-preserved-in_default-strip : goal.comment-preserved-in_default-strip
comment-preserved-in_default-strip c = grind (arith, common_steps, rules, star_alone)

pub comment-preserved-in-Some-strip-2 : goal.comment-preserved-in-Some-strip-2
comment-preserved-in-Some-strip-2 c = grind (arith, common_steps, rules, opened_one)

pub comment-preserved : goal.comment-preserved
comment-preserved c = grind (arith, common_steps, rules, slash_alone)
