-- Whitespace that is skipped.
use Rattle.std.proofs.Common.{◌≡◌, ℕ, Bool, true, List, [], ◌∷◌, ◌||◌, ◌==◌, arith}
use Rattle.std.specs.List.{list_any}
use Rattle.std.proofs.{lemmas.{Bool.{cond-true}}, Math.Bool.{or-false, or_assoc}}
use Rattle.std.proofs.lemmas.Grind.{common_steps}
use Rattle.rustc_literal_escaper.specs.{Grammar.{is_newline, is_passed_over}, laws.Escape.{run-cut}}
use Rattle.rustc_literal_escaper.specs.model.Escape.{front_run, past_run}

-- Whether the whitespace ahead contains a newline.
unfoldable pub newline_ahead : List ℕ → Bool
newline_ahead s = list_any is_newline (front_run is_passed_over s)

-- Holds if `left` remains after some of the whitespace of `line`, and `newline` states whether that whitespace contains
-- a newline.
pub record Passing (newline : Bool) (line left : List ℕ) : Type 0 where
  pub seen : newline_ahead line ≡ (newline || newline_ahead left)
  pub past : past_run is_passed_over line ≡ past_run is_passed_over left

pub passing-step : (newline : Bool) (line left s : List ℕ) (c : ℕ) → Passing newline line left → left ≡ c ∷ s
    → is_passed_over c ≡ true → Passing (newline || (c == 10)) line s
unfolding newline_ahead
passing-step newline line left s c at e is = grind (arith, common_steps, cond-true, or_assoc)

-- Holds if `left` remains after all of the whitespace of `line`, and `newline` states whether it contains a newline.
abbrev pub Passed : Bool → List ℕ → List ℕ → Type 0
Passed newline line left = (newline ≡ list_any is_newline (front_run is_passed_over line))
    × (left ≡ past_run is_passed_over line)

pub passing-end : (newline : Bool) (line left : List ℕ) → Passing newline line left → front_run is_passed_over left ≡ []
    → Passed newline line left
unfolding newline_ahead
passing-end newline line left at none = grind (arith, common_steps, run-cut is_passed_over left, or-false)

pub ruleset place_lemmas = (passing-step, passing-end)
