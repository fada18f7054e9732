use Rattle.rustc_lexer_errors.proofs.LineEndLemmas.{left_left}
use Rattle.rustc_lexer_errors.proofs.line_ends.FileCharsText.next_char.Goals as goal

pub invariant_of-self : goal.invariant_of-self
invariant_of-self c = left_left c.self.invariant c.in_ok-c.ensures.1
