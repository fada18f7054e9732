use Rattle.std.proofs.Common.{arith}
use Rattle.rustc_lexer.proofs.lemmas.tokens.{Advance.{passed}, Guarded.{none_here, some_here}}
use Rattle.rustc_lexer.proofs.cursor.Cursor.guarded_double_quoted_string.Goals as goal

pub returns-in_default : goal.returns-in_default
returns-in_default c =
    let taken = none_here _ _ _ _ _ c.self.view_is c.as_str-rest.ensures.rest _ c.count_hashes-n_hashes.ensures.count
    c.in_default.ensures.read in
    record {
      answer = rw taken;
      state = rw (taken, c.skip_bytes.ensures);
    }

pub returns : goal.returns
returns c =
    let taken = some_here _ _ _ _ _ c.self.view_is c.as_str-rest.ensures.rest _ c.count_hashes-n_hashes.ensures.count _
    _ c.in-Some.ensures.read in
    record {
      answer = rw taken;
      state = rw (taken, c.skip_bytes-2.ensures);
    }

pub invariant_of-self : goal.invariant_of-self
invariant_of-self c =
    passed _ _ c.self.invariant _ c.self.view_is _ c.as_str-rest.ensures.rest _ _
    c.count_hashes-n_hashes.ensures.boundary (omega arith) _ c.skip_bytes.ensures

pub invariant_of-self-2 : goal.invariant_of-self-2
invariant_of-self-2 c =
    passed _ _ c.self.invariant _ c.self.view_is _ c.as_str-rest.ensures.rest _ 0 c.in-Some.ensures.boundary
    (omega arith) _ c.skip_bytes-2.ensures
