use Rattle.std.proofs.Common.{codes}
use Rattle.lexdump_run.specs.Listing.{bool_text, field, fields_text}
use Rattle.lexdump_run.proofs.PushLemmas.{pushes_both, pushes_first}
use Rattle.lexdump_run.proofs.listing.push_fields.Goals as goal

pub returns-in_ok-push_field-in-BlockComment : goal.returns-in_ok-push_field-in-BlockComment
unfolding fields_text
returns-in_ok-push_field-in-BlockComment g c =
    pushes_both _ (rw c.in-BlockComment.is (cc)) c.in_ok-push_field-in-BlockComment.ensures
    c.push_field-in-BlockComment-2.ensures

pub returns-in_err-push_field-in-Frontmatter : goal.returns-in_err-push_field-in-Frontmatter
unfolding fields_text
returns-in_err-push_field-in-Frontmatter g c =
    pushes_first (field (codes "invalid_infostring") (bool_text c.in-Frontmatter.invalid_infostring)) _
    (rw c.in-Frontmatter.is (cc)) c.in_err-push_field-in-Frontmatter.ensures
    c.from_residual-in_err-push_field-in-Frontmatter.ensures.1

pub returns-in_ok-push_field-in-Frontmatter : goal.returns-in_ok-push_field-in-Frontmatter
unfolding fields_text
returns-in_ok-push_field-in-Frontmatter g c =
    pushes_both _ (rw c.in-Frontmatter.is (cc)) c.in_ok-push_field-in-Frontmatter.ensures
    c.push_field-in-Frontmatter-2.ensures

pub returns-in_ok-push_literal-in-Literal : goal.returns-in_ok-push_literal-in-Literal
unfolding fields_text
returns-in_ok-push_literal-in-Literal g c =
    pushes_both _ (rw c.in-Literal.is (cc)) c.in_ok-push_literal-in-Literal.ensures c.push_field-in-Literal.ensures

pub returns-in-Lifetime : goal.returns-in-Lifetime
unfolding fields_text
returns-in-Lifetime g c =
    rw (c.in-Lifetime.is, ← c.flag_name-in-Lifetime.ensures) c.push_field-in-Lifetime.ensures
