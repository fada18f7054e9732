use Rattle.std.proofs.Common.{[], refl, ap, take}
use Rattle.lexdump_run.proofs.PushLemmas.{pushes_both, went_past}
use Rattle.lexdump_run.proofs.output.BlockWriter.push_past.Goals as goal

pub returns-then-bytes-gt-BLOCK : goal.returns-then-bytes-gt-BLOCK
returns-then-bytes-gt-BLOCK g c =
    let none = ap (λ n. take n c.write_out.new.self.bytes) c.in_ok-write_out.ensures.empty in
    pushes_both {one = []} {two = c.args.bytes.now} _ refl c.in_ok-write_out.ensures.pushed record {
      same_output = refl;
      failed = c.write_bytes.ensures.failed;
      only = c.write_bytes.ensures.only;
      ok = went_past _ _ _ _ _ none c.write_bytes.ensures.ok;
      err = rw none c.write_bytes.ensures.err;
    }

pub returns : goal.returns
returns g c = pushes_both {one = []} {two = c.args.bytes.now} _ refl c.in_ok-write_out.ensures.pushed c.hold.ensures
