use Rattle.std.proofs.Common.{[], ◌∷◌, refl, arith}
use Rattle.rustc_lexer_errors.proofs.LineEndLemmas.{read_left, read_line}
use Rattle.rustc_lexer_errors.proofs.line_ends.first_char.Goals as goal

pub returns-in-Some : goal.returns-in-Some
returns-in-Some c =
    let read = c.in_ok-first.ensures in
    let line = c.in-Some.ensures in (
      rw (read.0, line.1, line.0) refl,
      read_line _ _ _ (c.in_ok-first.first ∷ []) c.utf8.rest line.3 read.0 line.1,
      omega arith,
    )

pub returns-in-None : goal.returns-in-None
returns-in-None c =
    let read = c.in_ok-first.ensures in (
      rw (read.0, c.in-None.ensures) refl,
      read_left _ _ (c.in_ok-first.first ∷ []) c.utf8.rest read.2 read.0 c.in-None.ensures,
      read.1,
    )
