use Rattle.lexdump_run.specs.Listing.{literal_fields}
use Rattle.lexdump_run.proofs.PushLemmas.{pushes_both}
use Rattle.lexdump_run.proofs.listing.push_literal_fields.Goals as goal

pub returns-in_ok-push_field-in-Int : goal.returns-in_ok-push_field-in-Int
unfolding literal_fields
returns-in_ok-push_field-in-Int g c =
    pushes_both _ (rw c.in-Int.is (cc)) c.in_ok-push_field-in-Int.ensures
    c.push_field-in-Int.ensures

pub returns-in_ok-push_field-in-Float : goal.returns-in_ok-push_field-in-Float
unfolding literal_fields
returns-in_ok-push_field-in-Float g c =
    pushes_both _ (rw c.in-Float.is (cc)) c.in_ok-push_field-in-Float.ensures
    c.push_field-in-Float-2.ensures
