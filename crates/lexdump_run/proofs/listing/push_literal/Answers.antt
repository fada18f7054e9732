use Rattle.lexdump_run.proofs.PushLemmas.{pushes_both}
use Rattle.lexdump_run.proofs.listing.push_literal.Goals as goal

pub returns : goal.returns
returns g c = pushes_both _ (cc) c.in_ok-push_field.ensures c.push_literal_fields.ensures
