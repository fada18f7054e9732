use Rattle.std.proofs.{Common.{arith}, lemmas.Grind.{common_steps}}
use Rattle.rustc_lexer.proofs.lemmas.edits.WholeEdits.{body_is, in_body}
use Rattle.rustc_lexer.proofs.head.Head.body_change.Goals as goal

pub returns-clause-body : goal.returns-clause-body
returns-clause-body c first before insert text law e old_head now_head =
    (body_is law before insert text c.args.edit c.args.self c.args.now _ _ e old_head now_head
    c.between-head.ensures.keeps
    (rw (c.between-head.ensures.before, c.between-head.ensures.after) at c.body_change.ensures))

pub returns-clause-change : goal.returns-clause-change
returns-clause-change c = grind (arith, common_steps, in_body)
