-- Checkpoints are token boundaries after an edit, too.
use Rattle.std.proofs.Common.{◌≡◌, ℕ, ◌+◌, ◌-◌, ◌≤◌, List, length, ap, arith, length-drop}
use Rattle.std.proofs.Common.{take-take}
use Rattle.std.specs.List.{All}
use Rattle.std.proofs.lemmas.Grind.{common_steps}
use Rattle.rustc_lexer.specs.declared.relex.{boundary.TokenStart.{TokenStart}, checkpoints.Checkpoints.{Checkpoints}}
use Rattle.rustc_lexer.specs.{Token, Classes.{IsText}, Locality.{IsGrammar}, Tokens.{tokens_by}}
use Rattle.rustc_lexer.specs.{Offsets.{IsBound}, model.Checkpoints.{AreBounds, IsMovable, IsReplaced}}
use Rattle.rustc_lexer.proofs.lemmas.edits.{Bounds.{bound_mono, bounds_fit, tokens_le_bytes}, FrontAndBack.{bound-same}}
use Rattle.rustc_lexer.proofs.lemmas.edits.KeptFront.{bound-shift}

module _ (old new : List Token) (kept met now : TokenStart) (is : IsReplaced old new kept met now) where
  -- A boundary in the kept front is still a boundary.
  pub front_stays : (at : TokenStart) → at.index ≤ kept.index → IsBound old at → IsBound new at
  front_stays at few here =
      grind (
        arith,
        common_steps,
        is.front,
        is.kept_le,
        is.now_bound.0,
        bound-same at.index old new
            (cc (take-take at.index kept.index old few, is.front, take-take at.index kept.index new few)),
      )

  pub kept_stays : IsBound new kept
  kept_stays = front_stays kept (omega arith) is.kept_bound

  -- A boundary in the kept back moves together with the boundary where old and new tokens meet.
  pub back_moves : (at : TokenStart) → met.index ≤ at.index → IsBound old at
      → IsBound new (record { index = at.index - met.index + now.index; offset = at.offset - met.offset + now.offset })
  back_moves at past here =
      let m : ℕ = at.index - met.index in
      let there : met.index + m ≡ at.index = omega arith in
      let turned : now.index + m ≡ m + now.index = omega arith in
      let long = ap length is.back in
      let before = rw there at (bound-shift old met.index m) in
      let after = rw (turned, is.back) at (bound-shift new now.index m) in (
        omega (arith, is.met_bound.0, is.now_bound.0, length-drop now.index new, length-drop met.index old),
        omega (arith, is.met_bound.1, is.now_bound.1),
      )

-- Indices and offsets of both lists are small enough to be moved.
pub movable_for : {first : List ℕ → Token} (law : IsGrammar first) {text made : List ℕ} {old new : List Token}
    {kept met now : TokenStart}
    → IsText text → IsText made → (checkpoints : Checkpoints) → old ≡ tokens_by first text → new ≡ tokens_by first made
    → IsReplaced old new kept met now → AreBounds old checkpoints → All (IsMovable met now) checkpoints.bounds
movable_for law is its checkpoints e f replaced are k d few past =
    grind (arith, common_steps, bound_mono, tokens_le_bytes, bounds_fit)
