use Rattle.std.proofs.{Common.{◌-◌, ◌∙◌, List, ℕ, length, subst, rules}, Math.Seq.{take-length}}
use Rattle.rustc_lexer.specs.Edits.{IsNarrowest}
use Rattle.rustc_lexer.proofs.lemmas.edits.{InCommon.{narrowest}, FrontAndBack.{OnOk-map}}
use Rattle.rustc_lexer.proofs.relex.lexed.Lexed.set_text.Goals as goal

pub returns : goal.returns
returns g c =
    let front = c.common_prefix-start.ensures in
    let back = c.common_suffix-back.ensures in
    let narrow = subst
    (λ (old : List ℕ). IsNarrowest old c.args.text.now c.common_prefix-start.result
    (length c.text-old.result.now - c.common_suffix-back.result) c.range.result.now) c.text-old.ensures.text
    (narrowest c.requires.fits front.front front.old_boundary front.longest back.back back.old_boundary back.longest
    (rw (take-length c.args.text.now) at c.range.ensures.value)) in
    record {
      text = OnOk-map c.edit.result (λ made. made ∙ narrow.makes.made) c.edit.ensures.edited.text;
      same = search rules;
      edit = λ differ. (
        c.common_prefix-start.result,
        length c.text-old.result.now - c.common_suffix-back.result,
        c.range.result.now,
        narrow,
        c.edit.ensures.edited,
        c.edit.ensures.count,
      );
      grammar = c.edit.ensures.grammar;
    }
