use Rattle.std.proofs.Common.{◌≡◌, arith, drop, refl}
use Rattle.rustc_lexer.proofs.lemmas.joined.Joined.{touch_none}
use Rattle.rustc_lexer.proofs.relex.joined.keeps_separator.Goals as goal

pub returns-then-len-eq0 : goal.returns-then-len-eq0
returns-then-len-eq0 c =
    let none : c.args.len ≡ 0 = omega arith in
    (λ t. rw none (touch_none c.args.edition (drop c.args.at c.args.text.now)), λ touch. refl)

pub returns : goal.returns
returns c = rw c.range_from.ensures.value at c.is_token_boundary.ensures.touch
