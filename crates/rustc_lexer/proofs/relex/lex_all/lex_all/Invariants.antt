use Rattle.std.proofs.Common.{drop, length, ◌-◌, ◌≡◌, ◌+◌, ◌++◌}
use Rattle.rustc_lexer.specs.{Tokens.{tokens_by}, model.Checkpoints.{AreBounds}}
use Rattle.rustc_lexer.proofs.lemmas.tokens.Progress.{IsLexedTo}
use Rattle.rustc_lexer.proofs.relex.lex_all.lex_all.Given as goal

abbrev pub invariant-left : goal.invariant-left
invariant-left g l = (l.tokens.items ≡ l.fn.tokens.items ++ drop (length l.fn.tokens.items) l.tokens.items)
    × IsLexedTo (g.S.Stepper.grammar l.fn.stepper).first l.text (drop (length l.fn.tokens.items) l.tokens.items)
    l.offset
    × (g.S.Stepper.grammar l.stepper ≡ g.S.Stepper.grammar l.fn.stepper)
    × (g.S.Stepper.count l.stepper ≡ g.S.Stepper.count l.fn.stepper + length
    (drop (length l.fn.tokens.items) l.tokens.items))
    × AreBounds (tokens_by (g.S.Stepper.grammar l.fn.stepper).first l.text) l.checkpoints

abbrev pub decreases-left : goal.decreases-left
decreases-left g l = length l.text - l.offset
