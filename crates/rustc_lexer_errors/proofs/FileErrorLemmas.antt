-- The errors of a literal in a file.
use Rattle.std.proofs.Common.{◌≡◌, ℕ, zero, suc, ◌==◌, true, false, List, [], ◌∷◌, append-nil, length, map, refl}
use Rattle.std.proofs.{Common.{ap, ◌∙◌, arith, Option}, lemmas.{Bool.Decides.{nat_tests}, Str.{chars-nil}}}
use Rattle.std.proofs.lemmas.Grind.{common_steps}
use Rattle.std.specs.{List.{position_or_len}, Option.{option_map, option_to_list}, Str.{chars, IsUtf8}}
use Rattle.std.specs.declared.ops.Range.{Range}
use Rattle.rustc_literal_escaper.proofs.AnswerLemmas.{errors_of-read}
use Rattle.rustc_literal_escaper.specs.{Answers.{errors_of, items_of}, Grammar.{Error, Item}, Meaning.{error_of}}
use Rattle.rustc_literal_escaper.specs.{Meaning.{errors_in, is_raw, is_single, put}, laws.Elements.{nothing}}
use Rattle.rustc_literal_escaper.specs.model.{Elements.{front_by, items_from}, Single.{alone_error, read_errors}}
use Rattle.rustc_literal_escaper.specs.{model.Single.{single, single_error}, declared.error.EscapeError.{EscapeError}}
use Rattle.rustc_literal_escaper.specs.declared.mode.Mode.{Mode, TheVariants.{Str}}
use Rattle.rustc_lexer_errors.specs.LineEnds.{escape_errors_in_file, file_items, moved, place, unix}
use Rattle.rustc_lexer_errors.specs.{Literal.{first_offset}, model.LineEnds.{offset_of, single_left}}
use Rattle.rustc_lexer_errors.proofs.LineEndLemmas.{chars-unix, utf8-unix}
use Rattle.rustc_literal_escaper.specs.model.Elements as reading

abbrev move : List ℕ → Error → Error
move text e = (moved text e.0, e.1)

put-moved : (text : List ℕ) (o : Option EscapeError) (range : Range ℕ) (es : List Error)
    → put (moved text range) o (map (move text) es) ≡ map (move text) (put range o es)
put-moved text o range es = grind (arith, common_steps)

errors-moved : (mode : Mode) (text : List ℕ) (items : List Item)
    → errors_in mode (map (λ (i : Item). (moved text i.0, i.1)) items) ≡ map (move text) (errors_in mode items)
errors-moved mode text [] = refl
errors-moved mode text (i ∷ items) =
    cc (errors-moved mode text items, put-moved text (error_of mode i.1) i.0 (errors_in mode items))

errors-are : (mode : Mode) (text : List ℕ) → is_single mode ≡ false
    → errors_of mode text ≡ errors_in mode (items_of (is_raw mode) text)
errors-are mode text w2 = grind (arith, common_steps)

pub string_errors : (mode : Mode) (text : List ℕ) → is_single mode ≡ false
    → errors_in mode (file_items (is_raw mode) text) ≡ escape_errors_in_file mode text
string_errors mode text double =
    cc (errors-moved mode text (items_of (is_raw mode) (unix text)), errors-are mode (unix text) double)

-- A text without a carriage return is unchanged.
same-unix : (s : List ℕ) → position_or_len (λ x. x == 13) s ≡ length s → unix s ≡ s
same-unix [] none = refl
same-unix (c ∷ s) none = grind (arith, common_steps, nat_tests, same-unix s)

same-place : (s : List ℕ) (i : ℕ) → position_or_len (λ x. x == 13) s ≡ length s → place s i ≡ i
same-place s zero none = refl
same-place [] (suc i) none = refl
same-place (c ∷ s) (suc i) none = grind (arith, common_steps, nat_tests, same-place s i)

same-moved : (s : List ℕ) (es : List Error) → position_or_len (λ x. x == 13) s ≡ length s → map (move s) es ≡ es
same-moved s [] none = refl
same-moved s (e ∷ es) none =
    rw (same-place s e.0.start none, same-place s e.0.end none)
    (ap (λ (es : List Error). e ∷ es) (same-moved s es none))

pub same_errors : (mode : Mode) (text : List ℕ) → first_offset 13 text ≡ length text
    → errors_of mode text ≡ escape_errors_in_file mode text
unfolding first_offset
same_errors mode text none = cc (same-moved text (errors_of mode text) none, same-unix text none)

list-moved : (text : List ℕ) (o : Option Error) → option_to_list (option_map (move text) o) ≡
    map (move text) (option_to_list o)
list-moved text o = grind (arith, common_steps)

read-single : (mode : Mode) (text : List ℕ) → is_single mode ≡ true
    → read_errors mode text ≡ option_to_list (single_error (reading.place (length text)) mode (chars text))
read-single mode text single = rw single refl

pub single_errors : (mode : Mode) (text : List ℕ) → IsUtf8 text → is_single mode ≡ true
    → option_to_list (single_left text mode (unix (chars text))) ≡ escape_errors_in_file mode text
single_errors mode text is single =
    grind (arith, common_steps, list-moved, chars-unix, read-single, errors_of-read, utf8-unix)

alone-moved : (text : List ℕ) (wrong : Option EscapeError) (left : List ℕ)
    → alone_error (offset_of text) wrong left ≡
    option_map (move text) (alone_error (reading.place (length (unix text))) wrong left)
alone-moved text wrong left = grind (arith, common_steps)

pub single_moved : (text : List ℕ) (mode : Mode) (left : List ℕ) → single_error (offset_of text) mode left ≡
    single_left text mode left
single_moved text mode [] = refl
single_moved text mode (c ∷ s) = alone-moved text (error_of mode (single c s).0) (single c s).1

-- ---- the three fields of the iterator

no-items : items_of false [] ≡ []
no-items = ap (items_from (front_by false) 0) chars-nil ∙ nothing (front_by false) (reading.place 0)

pub no-file-errors : (mode : Mode) → errors_in mode (file_items false []) ≡ []
no-file-errors mode = ap (λ (is : List Item). errors_in mode (map (λ (i : Item). (moved [] i.0, i.1)) is)) no-items

pub no-errors : errors_of Str [] ≡ []
no-errors = ap (errors_in Str) no-items

pub ruleset error_lemmas =
    (no-file-errors, no-errors, same_errors, single_errors, string_errors, append-nil, common_steps)
