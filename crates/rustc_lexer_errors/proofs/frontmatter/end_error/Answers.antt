use Rattle.rustc_lexer_errors.proofs.FrontmatterLemmas.{ends_found}
use Rattle.rustc_lexer_errors.proofs.frontmatter.end_error.Goals as goal

pub returns : goal.returns
returns c =
    rw (c.closing_error.ensures, c.run_of.ensures.value)
    (ends_found _ _ c.as_bytes-bytes.ensures.value _ c.in-Some.ensures)
