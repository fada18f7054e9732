use Rattle.std.proofs.Common.{refl}
use Rattle.rustc_literal_escaper.proofs.SinkLemmas.{takes_error}
use Rattle.rustc_literal_escaper.proofs.elements.ElementsOf.next_error.Goals as goal

pub returns : goal.returns
returns g c =
    rw (← c.self.view_is, c.each-self-inside.ensures.same, c.copy-rest.ensures)
    (takes_error _ (λ s. s.mode) (λ s. s.found) (λ s t i more took. took) refl
    (rw c.copy-rest.ensures at c.each-self-inside.ensures.runs))
