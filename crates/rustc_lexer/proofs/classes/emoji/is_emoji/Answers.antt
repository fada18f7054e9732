use Rattle.std.proofs.{Common.{rules, ◌∙◌}, lemmas.Fn.{always_returns_same}}
use Rattle.rustc_lexer.specs.{model.Emoji.{side}, Tables.{emoji_ranges}}
use Rattle.rustc_lexer.proofs.lemmas.tokens.Emoji.{past_ascii}
use Rattle.rustc_lexer.proofs.classes.emoji.is_emoji.Goals as goal

pub returns-then-not-is_ascii : goal.returns-then-not-is_ascii
unfolding emoji_ranges
returns-then-not-is_ascii c =
    let position = c.binary_search_by.ensures.position (side c.args.c)
    (always_returns_same _ _ _ (λ a r f' called. search rules)) in
    c.is_ok.ensures.value
    ∙ past_ascii c.args.c _ _ c.is_ascii.ensures c.if-not-is_ascii.true c.binary_search_by.ensures.bound position
