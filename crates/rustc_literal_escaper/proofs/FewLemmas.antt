-- A literal has at most as many elements as bytes, and at most as many errors as elements.
use Rattle.std.proofs.Common.{ℕ, ◌≤◌, Bool, if◌then◌else◌, List, [], ◌∷◌, length, max, Option, ap, arith, length-append}
use Rattle.std.proofs.Math.Nat.{le-max_left, le-max_right}
use Rattle.std.specs.{List.{list_any}, Option.{option_to_list}, Str.{chars, IsUtf8}}
use Rattle.std.proofs.lemmas.{Str.{encodes-chars, length-le-encodes}, Grind.{common_steps}}
use Rattle.rustc_literal_escaper.specs.declared.element.Element.{Element, TheVariants.{Diagnostic}}
use Rattle.rustc_literal_escaper.specs.declared.error.EscapeError.TheVariants.{MultipleSkippedLinesWarning}
use Rattle.rustc_literal_escaper.specs.{declared.mode.Mode.{Mode}, Answers.{errors_of, items_of}}
use Rattle.rustc_literal_escaper.specs.Grammar as g
use Rattle.rustc_literal_escaper.specs.Grammar.{AreItems, Error, IsElementBefore, Item, is_newline, item, space_warning}
use Rattle.rustc_literal_escaper.specs.{Meaning.{errors_in}, laws.TheAnswers.{items-are}}
use Rattle.rustc_literal_escaper.proofs.AnswerLemmas.{errors_of-read}

-- An element has at least one character.
pub some : {special next : List ℕ} {e : Element} {w : List ℕ} → IsElementBefore special next e w → 1 ≤ length w
some w0 = grind (arith, common_steps)

one : (b : Bool) (i : Item) → length (if b then i ∷ [] else []) ≤ 1
one b i = grind (arith, common_steps)

space-few : (from : ℕ) (space next : List ℕ) → length (space_warning from space next) ≤ 1
space-few from space next = grind (arith, common_steps, one)

few : {raw : Bool} {from : ℕ} {s : List ℕ} {items : List Item} → AreItems raw from s items → length items ≤ length s
few g.nothing = omega arith
few (g.element {next} {w} is other are) = omega (arith, length-append w next, some is, few are)
few (g.raw_element is are) = omega (arith, few are)
few (g.line_end {from} {next} {items} space all stops are) =
    omega (
      arith,
      length-append {A = Item},
      length-append space next,
      one (list_any is_newline space)
          (item from (Diagnostic MultipleSkippedLinesWarning) (92 ∷ 10 ∷ space)),
      space-few from space next,
      few are,
    )

pub items-few : (raw : Bool) (text : List ℕ) → IsUtf8 text → length (items_of raw text) ≤ length text
items-few raw text is =
    omega (arith, few (items-are raw text is), length-le-encodes (chars text), ap length (encodes-chars text is))

pub errors-few : (mode : Mode) (items : List Item) → length (errors_in mode items) ≤ length items
errors-few mode [] = omega arith
errors-few mode (item ∷ items) = grind (arith, common_steps, errors-few mode items)

alone-few : (error : Option Error) → length (option_to_list error) ≤ 1
alone-few error = grind (arith, common_steps)

-- Between single quotes, there is at most one error.
pub errors_of-few : (mode : Mode) (text : List ℕ) → IsUtf8 text → length (errors_of mode text) ≤ max 1 (length text)
errors_of-few mode text is =
    grind (arith, common_steps, errors_of-read, alone-few, le-max_left, errors-few, items-few, le-max_right)
