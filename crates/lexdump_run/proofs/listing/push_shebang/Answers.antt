use Rattle.std.proofs.Common.{sym, ap}
use Rattle.lexdump_run.specs.Listing.{shebang_line}
use Rattle.lexdump_run.proofs.PushLemmas.{pushes_both}
use Rattle.lexdump_run.proofs.listing.push_shebang.Goals as goal

pub returns-in_ok-push_number-in-Some : goal.returns-in_ok-push_number-in-Some
returns-in_ok-push_number-in-Some g c =
    pushes_both _ (ap shebang_line (sym c.in-Some.ensures.line)) c.in_ok-push_number-in-Some.ensures
    c.push.ensures
