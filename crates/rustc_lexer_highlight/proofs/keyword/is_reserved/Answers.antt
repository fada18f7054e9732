use Rattle.rustc_lexer_highlight.specs.declared.keyword.KeywordKind.TheVariants.{Reserved}
use Rattle.rustc_lexer_highlight.proofs.KeywordLemmas.{◌&◌, has_not}
use Rattle.rustc_lexer_highlight.proofs.keyword.is_reserved.Goals as goal

pub returns-in_default : goal.returns-in_default
returns-in_default c =
    let n = c.in_default in
    has_not Reserved _ _
    (n.not-abstract & n.not-become & n.not-box & n.not-do & n.not-final & n.not-macro & n.not-override & n.not-priv
    & n.not-typeof & n.not-unsized & n.not-virtual & n.not-yield & tt) (n.not-try & tt) (n.not-gen & tt)
