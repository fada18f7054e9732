use Rattle.std.proofs.Common.{refl}
use Rattle.rustc_lexer.specs.Tokens.{tokens_by}
use Rattle.rustc_lexer.proofs.lemmas.edits.{ByLengths.{follows, made_front}, UnderWay.{begun, front_below}}
use Rattle.rustc_lexer.proofs.relex.relexer.Relexer.begin_valid.Goals as goal

pub returns-clause-under_way : goal.returns-clause-under_way
returns-clause-under_way g c = λ first before insert law is near.
    let front = c.kept_front-front.result in
    let k = c.kept_front-front.ensures.front before (tokens_by first before) (made_front law is) near in
    let f = c.follow-to.ensures in
    let followed = follows law is front.offset _ refl k.1 (front_below law is front k.1 k.2)
    (f.followed (tokens_by first before)) in
    begun law is front c.follow-to.result k.0 k.1 followed f.stays
