use Rattle.std.proofs.Common.{◌≡◌, ◌+◌}
use Rattle.rustc_lexer.specs.Tokens.{bound}
use Rattle.rustc_lexer.proofs.relex.lexed.look_up.end_from.Given as goal

abbrev pub invariant-loop-token : goal.invariant-loop-token
invariant-loop-token l = l.end ≡ l.fn.start + bound l.tokens l.token-index
