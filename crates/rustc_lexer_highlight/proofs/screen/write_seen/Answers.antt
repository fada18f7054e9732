use Rattle.std.proofs.Common.{refl}
use Rattle.rustc_lexer_highlight.proofs.ScreenLemmas.{writes_stretch}
use Rattle.rustc_lexer_highlight.proofs.screen.write_seen.Goals as goal

pub loop-front-preserved : goal.loop-front-preserved
loop-front-preserved g c =
    let found = c.in-Some.ensures in
    record {
      utf8 = found.4;
      left = λ w more. c.loop-front.invariant.left w
          (writes_stretch g.W.Write.write_str_gives c.loop-front.output c.write_str.new.self
          c.write_char.new.self w _ _ _ _ _
          found.3 found.0 found.1 c.seen_char.ensures
          (c.in_ok-write_str.ensures.ok refl) c.in_ok-write_char.ensures.writes more);
    }
