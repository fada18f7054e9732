use Rattle.std.proofs.Common.{length, map, ◌-◌, ◌≡◌, ◌+◌, drop, take}
use Rattle.rustc_lexer.specs.{Token, Tokens.{tokens_by}, Relexer.{IsRelexOf}}
use Rattle.rustc_lexer.specs.model.{Checkpoints.{AreBounds}, Relexer.{ForEachOldText}}
use Rattle.rustc_lexer.proofs.relex.replacement.lex_replacement.Given as goal

abbrev pub invariant-left : goal.invariant-left
invariant-left g l = record {
  same_text : l.relex.text ≡ l.fn.text;
  same_lengths : l.relex.lengths ≡ map (λ (t : Token). t.len) l.fn.old_tokens;
  same_change : l.relex.change ≡ l.fn.change;
  grammar : g.S.Stepper.grammar l.stepper ≡ g.S.Stepper.grammar l.fn.stepper;
  count : g.S.Stepper.count l.stepper ≡ g.S.Stepper.count l.fn.stepper + length l.tokens.items;
  lexed : l.relex.at.lexed ≡ length l.tokens.items;
  under_way : ForEachOldText (g.S.Stepper.grammar l.fn.stepper).first l.fn.text l.fn.old_tokens l.fn.change l.fn.near
      (λ before insert. IsRelexOf (g.S.Stepper.grammar l.fn.stepper).first before insert l.relex
      × (l.tokens.items ≡ take l.relex.at.lexed (drop l.relex.at.front.index
      (tokens_by (g.S.Stepper.grammar l.fn.stepper).first l.fn.text)))
      × (AreBounds (tokens_by (g.S.Stepper.grammar l.fn.stepper).first l.fn.text) l.fn.lexed_bounds
      → AreBounds (tokens_by (g.S.Stepper.grammar l.fn.stepper).first l.fn.text) l.lexed_bounds));
}

abbrev pub decreases-left : goal.decreases-left
decreases-left g l = length l.fn.text - l.relex.at.at
