use Rattle.rustc_lexer_highlight.proofs.KeywordLemmas.{◌&◌, is_out, strict_from}
use Rattle.rustc_lexer_highlight.proofs.keyword.is_strict_to_return.Goals as goal

pub returns-in_default : goal.returns-in_default
returns-in_default c =
    let n = c.in_default in
    is_out (strict_from 12) _ (n.not-if & n.not-impl & n.not-in & n.not-let & n.not-loop & n.not-match &
    n.not-mod & n.not-move & n.not-mut & n.not-pub & n.not-ref & n.not-return & tt)
