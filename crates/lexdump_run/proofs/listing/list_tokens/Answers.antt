use Rattle.std.proofs.Common.{◌<◌, length, refl, ap, subst, rules, arith, length-drop}
use Rattle.rustc_lexer.specs.{Classes.{IsText}, Tokens.{bound, tokens_left}}
use Rattle.rustc_lexer.proofs.lemmas.tokens.Fill.{past_fill}
use Rattle.lexdump_run.proofs.{ListingLemmas.{buffer-split}, PushLemmas.{pushing_first, pushing_stopped}}
use Rattle.lexdump_run.proofs.listing.list_tokens.Goals as goal
use Rattle.std.proofs.lemmas.Grind.{common_steps}

pub left-preserved : goal.left-preserved
left-preserved g c =
    let leaves = past_fill c.left.tokens _ (length c.left.buffer) _
    (subst IsText c.as_str-in-left.ensures.rest record
    { utf8 = c.as_str-in-left.utf8; fits = c.as_str-in-left.ensures.fits }) c.as_str-in-left.ensures.pending
    c.fill-count.ensures.count c.fill-count.ensures.state in
    record {
      within =
          omega (
            arith,
            ap length leaves.rest,
            length-drop (bound (tokens_left c.left.tokens) c.fill-count.result)
                c.left.tokens.rest,
            c.left.invariant.within,
          );
      lines = pushing_first c.left.invariant.lines
          (buffer-split _ _ _ _ c.left.buffer _ _ c.as_str-in-left.ensures.rest c.as_str-in-left.utf8
          c.left.invariant.within c.requires
          (record { as_many = c.fill-count.ensures.count; tokens = c.fill-count.ensures.tokens }) _ _ leaves.tokens
          leaves.rest)
          c.in_ok-push_lines.ensures;
    }

pub left-smaller : goal.left-smaller
left-smaller g c =
    let leaves = past_fill c.left.tokens _ (length c.left.buffer) _
    (subst IsText c.as_str-in-left.ensures.rest record
    { utf8 = c.as_str-in-left.utf8; fits = c.as_str-in-left.ensures.fits }) c.as_str-in-left.ensures.pending
    c.fill-count.ensures.count c.fill-count.ensures.state in
    let some : 0 < length c.left.tokens.rest = grind (arith, common_steps, rules, c.as_str.ensures.rest) in
    leaves.progress (omega arith) some

pub returns-in_err-push_lines : goal.returns-in_err-push_lines
returns-in_err-push_lines g c =
    pushing_stopped _ _ c.left.invariant.lines
    (buffer-split _ _ _ _ c.left.buffer _ _ c.as_str-in-left.ensures.rest c.as_str-in-left.utf8
    c.left.invariant.within c.requires
    (record { as_many = c.fill-count.ensures.count; tokens = c.fill-count.ensures.tokens }) _ _ refl refl)
    c.in_err-push_lines.ensures c.from_residual.ensures.1
