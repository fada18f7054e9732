use Rattle.std.proofs.Common.{◌≡◌, ◌≤◌, ◌<◌, ◌^◌, ◌∷◌, [], ◌++◌, true, length}
use Rattle.std.specs.{Char.{is_ascii}, List.{list_all}}
use Rattle.rustc_literal_escaper.proofs.DigitLemmas.{left_at}
use Rattle.rustc_literal_escaper.proofs.escape.whole_number.Given as goal

abbrev pub invariant-digits : goal.invariant-digits
invariant-digits l =
    (left_at l.value l.count (l.rest ++ (125 ∷ [])) ≡ left_at 0 0 (l.first ∷ l.digits ++ (125 ∷ [])))
    × (list_all is_ascii l.rest ≡ true → list_all is_ascii (l.first ∷ l.digits) ≡ true)
    × (l.count ≤ 6) × (l.value < 16 ^ l.count)

abbrev pub decreases-digits : goal.decreases-digits
decreases-digits l = length l.rest
