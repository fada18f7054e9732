use Rattle.std.proofs.lemmas.Result.{on_ok_weaker}
use Rattle.rustc_lexer_highlight.proofs.LiteralLemmas.{paints_single}
use Rattle.rustc_lexer_highlight.proofs.literal.Painter.write_single.Goals as goal

pub returns : goal.returns
returns g c =
    on_ok_weaker c.write_rest.result
    (λ wrote. paints_single g.W.Write.write_str_gives _ _ _ _ _ _ _ _ _ c.single_look-look.ensures c.range.ensures.value
    c.in_ok-mark.ensures wrote) c.write_rest.ensures
