use Rattle.std.proofs.Common.{◌≡◌, length, ◌-◌, take}
use Rattle.rustc_lexer.specs.{Edits.{AreStepped}, LexedText.{layout_in}, model.EditSequence.{AreKeptTo, AreMadeTo}}
use Rattle.rustc_lexer.proofs.relex.lexed.Lexed.make.Given as goal

abbrev pub invariant-list : goal.invariant-list
invariant-list g l = record {
  made : AreMadeTo (layout_in g.E.Extent.whole (g.S.Stepper.grammar l.fn.self.stepper).first) l.fn.self l.edits l.made
      l.self;
  kept : AreKeptTo (layout_in g.E.Extent.whole (g.S.Stepper.grammar l.fn.self.stepper).first) l.fn.self l.edits l.made
      l.self;
  grammar : g.S.Stepper.grammar l.self.stepper ≡ g.S.Stepper.grammar l.fn.self.stepper;
  count : AreStepped (layout_in g.E.Extent.whole (g.S.Stepper.grammar l.fn.self.stepper).first) l.fn.self.text
      (take l.made.count l.edits) (g.S.Stepper.count l.fn.self.stepper) (g.S.Stepper.count l.self.stepper);
}

abbrev pub decreases-list : goal.decreases-list
decreases-list g l = length l.edits - l.made.count
