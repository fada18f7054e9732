use Rattle.std.proofs.Common.{List, ℕ, ap, ◌∙◌}
use Rattle.rustc_lexer_errors.specs.model.LineEnds.{offset_of}
use Rattle.rustc_lexer_errors.proofs.LineEndLemmas.{left_within, offset_is}
use Rattle.rustc_lexer_errors.proofs.line_ends.FileCharsText.offset.Goals as goal

pub overflow_sub-result : goal.overflow_sub-result
overflow_sub-result c = left_within c.self.invariant

pub returns : goal.returns
returns c = offset_is c.self.inside.text.now c.self.inside.rest.now c.self.invariant
    ∙ ap (λ (v : List ℕ × List ℕ). offset_of v.0 v.1) c.self.view_is
