use Rattle.std.proofs.Common.{◌-◌, ℕ, List, length, sym, ap, ◌∙◌}
use Rattle.std.specs.Str.Iter.{chars_rest}
use Rattle.std.proofs.lemmas.Str.{encodes-chars}
use Rattle.rustc_literal_escaper.specs.model.Elements.{place}
use Rattle.rustc_literal_escaper.proofs.text.PlainText.offset.Goals as goal

pub returns : goal.returns
returns c =
    ap (λ (xs : List ℕ). c.self.inside.total - length xs)
    (c.as_str.ensures ∙ sym (encodes-chars (chars_rest c.self.inside.ahead) c.self.invariant.0))
    ∙ ap (λ (v : ℕ × List ℕ). place v.0 v.1) c.self.view_is
