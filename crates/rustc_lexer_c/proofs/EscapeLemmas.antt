-- Writing the units of a literal, one at a time.
use Rattle.std.proofs.Common.{◌≡◌, ℕ, false, ◌+◌, ◌≤◌, List, [], ◌∷◌, length, take, drop, min, max, sym, ap}
use Rattle.std.proofs.Common.{◌∙◌, arith, Option, Some, None}
use Rattle.std.proofs.lemmas.{Bool.{cond_both}, Grind.{common_steps}, List.{drop-drop, length-map, length-set}}
use Rattle.std.proofs.Math.Nat.{le-max_left, le-max_right}
use Rattle.std.specs.{Option.{is_some}, Str.{IsUtf8}}
use Rattle.rustc_literal_escaper.specs.{declared.mode.Mode.{Mode}, Items.{TakesFirst}, Answers.{errors_of}}
use Rattle.rustc_literal_escaper.specs.Grammar.{Error}
use Rattle.rustc_literal_escaper.proofs.FewLemmas.{errors_of-few, items-few}
use Rattle.rustc_lexer.specs.laws.Choice.{by_either}
use Rattle.rustc_lexer_errors.specs.LineEnds.{ends_line, escape_errors_in_file, moved, unix}
use Rattle.rustc_lexer_errors.proofs.LineEndLemmas.{utf8-unix}
use Rattle.rustc_lexer_c.specs.{declared.escapes.CUnit.{CUnit}, Escapes.{IsUnits, units_of, wrong_unit, wrong_units_of}}
use Rattle.rustc_lexer_c.proofs.BufferLemmas.{all_taken, back_step, buffer_filled, count_second, few_step, front_step}
use Rattle.rustc_lexer_c.proofs.BufferLemmas.{left_step}

-- After one more unit, if there is one, the rest of the units is shorter by this unit.
pub passed_step : {X : Type 0} (all at past : List X) (over : ℕ) (next : Option X) → at ≡ drop over all
    → TakesFirst at next past → past ≡ drop (over + 1) all
passed_step all at past over None is taken = taken.1 ∙ (ap (drop 1) (sym taken.0 ∙ is) ∙ drop-drop 1 over all)
passed_step all at past over (Some x) is taken = left_step all past over x (sym is ∙ taken)

-- At the end, the buffer contains the batch.
pub units_done : (all : List CUnit) (passed : ℕ) (buffer old : List CUnit) (count : ℕ)
    → take count buffer ≡ take count (drop passed all) → drop count buffer ≡ drop count old
    → count ≡ min (length old) (length (drop passed all)) → IsUnits all passed old buffer count
units_done all passed buffer old count front back is = grind (arith, common_steps, buffer_filled)

-- If all units are skipped, nothing is written.
pub none_left : (all at past : List CUnit) (over passed : ℕ) (buffer : List CUnit) (next : Option CUnit)
    → at ≡ drop over all → over ≤ passed → is_some next ≡ false → TakesFirst at next past
    → IsUnits all passed buffer buffer 0
none_left all at past over passed buffer next is low none taken =
    grind (arith, common_steps, all_taken, units_done, count_second)

unix-shorter : (s : List ℕ) → length (unix s) ≤ length s
unix-shorter [] = omega arith
unix-shorter (c ∷ s) = let rest = unix-shorter s in
    by_either (ends_line c s) (λ e. rw e (omega (arith, rest))) (λ e. rw e (omega (arith, rest)))

-- A text has at most as many units as bytes, or one if it is empty.
pub units_few : (mode : Mode) (text : List ℕ) → IsUtf8 text → length (units_of mode text) ≤ max 1 (length text)
units_few mode text is = grind (arith, common_steps, cond_both, le-max_left, items-few, le-max_right)

pub errors_few : (mode : Mode) (text : List ℕ) → IsUtf8 text → length (wrong_units_of mode text) ≤ max 1 (length text)
errors_few mode text is =
    omega (
      arith,
      errors_of-few mode (unix text) (utf8-unix text is),
      unix-shorter text,
      length-map {B = Error} (errors_of mode (unix text)) (λ (e : Error). (moved text e.0, e.1)),
      length-map (escape_errors_in_file mode text) (λ (e : Error). wrong_unit e.0 e.1),
    )

pub ruleset fill_lemmas = (passed_step, few_step, length-set, front_step, back_step)
