use Rattle.std.proofs.Common.{rules, sym, ◌∙◌}
use Rattle.rustc_lexer_highlight.proofs.KeywordLemmas.{◌&◌, is_among_last}
use Rattle.rustc_lexer_highlight.proofs.keyword.is_strict.Goals as goal
use Rattle.rustc_lexer_highlight.proofs.keyword.is_strict.Goals.{then-is_strict_to_for, else-is_strict_to_for}

pub returns-else-is_strict_to_return : goal.returns-else-is_strict_to_return
returns-else-is_strict_to_return c =
    elim c.if-is_strict_to_for.branch [
      | then-is_strict_to_for w ↦ absurd (search rules)
      | else-is_strict_to_for w ↦ c.is_strict_to_while.ensures ∙ is_among_last _ _
          (sym c.is_strict_to_for.ensures ∙ w.if-is_strict_to_for.false)
          (sym w.is_strict_to_return.ensures ∙ (sym w.value-is ∙ c.if-is_strict_to_return.false))
          (c.in_default.not-async & c.in_default.not-await & c.in_default.not-dyn & tt)
    ]
