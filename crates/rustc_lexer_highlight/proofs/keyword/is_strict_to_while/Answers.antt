use Rattle.rustc_lexer_highlight.proofs.KeywordLemmas.{◌&◌, is_out, strict_from}
use Rattle.rustc_lexer_highlight.proofs.keyword.is_strict_to_while.Goals as goal

pub returns-in_default : goal.returns-in_default
returns-in_default c =
    let n = c.in_default in
    is_out (strict_from 24) _ (n.not-self & n.not-Self & n.not-static & n.not-struct & n.not-super &
    n.not-trait & n.not-true & n.not-type & n.not-unsafe & n.not-use & n.not-where₀ & n.not-while & tt)
