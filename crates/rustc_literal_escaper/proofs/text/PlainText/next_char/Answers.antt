use Rattle.std.proofs.Common.{◌≡◌, ◌∷◌, ℕ, List, [], MatchOption, subst, arith}
use Rattle.std.specs.Str.{chars, Iter.{chars_rest}}
use Rattle.rustc_literal_escaper.proofs.TextLemmas.{next_left}
use Rattle.rustc_literal_escaper.proofs.text.PlainText.next_char.Goals as goal

pub invariant_of-self : goal.invariant_of-self
invariant_of-self c =
    let left = next_left c.self.inside.ahead c.next.new.self c.next.result c.self.invariant.0 c.next.ensures.steps in
    let m = c.self.invariant.1 in let n = left.1 in (left.0, omega arith)

pub returns-clause-left : goal.returns-clause-left
returns-clause-left c =
    subst (λ (v : ℕ × List ℕ). MatchOption c.next.result ((v.1 ≡ []) × (chars (chars_rest c.next.new.self) ≡ []))
    (λ d. v.1 ≡ d ∷ chars (chars_rest c.next.new.self))) c.self.view_is
    (next_left c.self.inside.ahead c.next.new.self c.next.result c.self.invariant.0 c.next.ensures.steps).2
