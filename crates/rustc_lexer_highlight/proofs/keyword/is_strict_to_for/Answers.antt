use Rattle.rustc_lexer_highlight.proofs.KeywordLemmas.{◌&◌, is_out, strict_from}
use Rattle.rustc_lexer_highlight.proofs.keyword.is_strict_to_for.Goals as goal

pub returns-in_default : goal.returns-in_default
returns-in_default c =
    let n = c.in_default in
    is_out (strict_from 0) _ (n.not-text & n.not-as & n.not-break & n.not-const & n.not-continue &
    n.not-crate & n.not-else & n.not-enum & n.not-extern & n.not-false & n.not-fn & n.not-for & tt)
