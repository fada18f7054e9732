use Rattle.std.proofs.Common.{◌≡◌, ◌≤◌, drop}
use Rattle.std.specs.{Fmt.{WritesInCalls}, List.{between}}
use Rattle.rustc_literal_escaper.specs.Items.{ArePlaced}
use Rattle.rustc_lexer_highlight.specs.{Literal.{parts_from}, model.Literal.{IsCut, string_stretches, stretches_from}}
use Rattle.rustc_lexer_highlight.specs.Part.{with_markup}
use Rattle.rustc_lexer_highlight.proofs.literal.Painter.write_string.Given as goal

abbrev pub invariant-loop-range : goal.invariant-loop-range
invariant-loop-range g l = record {
  format : l.self.format ≡ l.fn.self.format;
  text : l.self.text.now ≡ l.fn.self.text.now;
  cut : IsCut l.self.text.now l.self.shown l.self.at;
  high : l.self.at ≤ l.close;
  places : ArePlaced (between l.begin l.close l.fn.self.text.now) l.range-iterator;
  left : (w : _) → WritesInCalls g.W.Write.write_str_gives l.output
      (with_markup l.fn.self.format
      (parts_from l.self.shown (drop l.self.shown l.fn.self.text.now)
      (stretches_from l.mode l.begin l.self.at l.close l.range-iterator))) w
      → WritesInCalls g.W.Write.write_str_gives l.fn.output
      (with_markup l.fn.self.format
      (parts_from l.fn.self.shown (drop l.fn.self.shown l.fn.self.text.now)
      (string_stretches l.mode l.begin l.close l.fn.self.text.now))) w;
}
