use Rattle.std.proofs.{lemmas.Grind.{common_steps}, Common.{arith, rules, sym, ◌∙◌}}
use Rattle.rustc_lexer.specs.{Tables.{is_emoji}, Classes.{ends_prefix}}
use Rattle.rustc_lexer.proofs.lemmas.tokens.Identifiers.{ident_or_unknown_prefix-invalid, ident_or_unknown_prefix-valid}
use Rattle.rustc_lexer.proofs.lemmas.tokens.Quick.{ident_or_unknown_prefix_ends}
use Rattle.rustc_lexer.proofs.lexemes.ident.ident_or_unknown_prefix.Goals as goal

pub returns-then-ends_word : goal.returns-then-ends_word
returns-then-ends_word c =
    ident_or_unknown_prefix_ends _ _ _ c.utf8.tail c.eat_continue-rest.utf8 c.eat_continue-rest.ensures.past
    c.as_bytes.ensures.value (sym c.if-ends_word.ensures)

pub returns-then-next_is : goal.returns-then-next_is
returns-then-next_is c = grind (arith, common_steps, rules, ident_or_unknown_prefix-invalid)

pub returns-then-next_is-2 : goal.returns-then-next_is-2
returns-then-next_is-2 c =
    rw (sym (c.next_is-2.ensures ends_prefix (λ d b e. e)) ∙ c.if-next_is-2.true) at
    (ident_or_unknown_prefix-valid _ _ c.utf8.tail c.eat_continue-rest.ensures.past
    (sym (c.next_is.ensures is_emoji (λ d b e. e)) ∙ c.if-next_is.false))

pub returns-else-next_is-2 : goal.returns-else-next_is-2
returns-else-next_is-2 c =
    grind (
      arith,
      common_steps,
      c.next_is-2.ensures ends_prefix (λ d b e. e),
      c.if-next_is-2.false,
      ident_or_unknown_prefix-valid,
    )
