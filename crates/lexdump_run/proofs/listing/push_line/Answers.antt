use Rattle.std.proofs.Common.{[], ◌∷◌, ◌++◌, refl}
use Rattle.lexdump_run.specs.Listing.{fields_text, line_text}
use Rattle.lexdump_run.proofs.PushLemmas.{pushes_both, pushes_first}
use Rattle.lexdump_run.proofs.listing.push_line.Goals as goal

pub returns-in_err-push_place : goal.returns-in_err-push_place
unfolding line_text
returns-in_err-push_place g c = pushes_first _ _ refl c.in_err-push_place.ensures c.from_residual.ensures.1

pub returns-in_err-push : goal.returns-in_err-push
unfolding line_text
returns-in_err-push g c =
    pushes_both _ refl c.in_ok-push_place.ensures
    (pushes_first (fields_text c.args.token.kind ++ 10 ∷ []) _
    (cc)
    c.in_err-push.ensures c.from_residual-in_err-push.ensures.1)

pub returns-in_err-push_fields : goal.returns-in_err-push_fields
unfolding line_text
returns-in_err-push_fields g c =
    pushes_both _ refl c.in_ok-push_place.ensures
    (pushes_both {two = fields_text c.args.token.kind ++ 10 ∷ []} _
    (cc)
    c.in_ok-push.ensures
    (pushes_first (10 ∷ []) _ refl c.in_err-push_fields.ensures
    c.from_residual-in_err-push_fields.ensures.1))

pub returns : goal.returns
unfolding line_text
returns g c =
    pushes_both _ refl c.in_ok-push_place.ensures
    (pushes_both {two = fields_text c.args.token.kind ++ 10 ∷ []} _
    (cc)
    c.in_ok-push.ensures
    (pushes_both {two = 10 ∷ []} _ refl c.in_ok-push_fields.ensures c.push-2.ensures))
