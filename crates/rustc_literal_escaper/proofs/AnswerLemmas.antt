-- The value of a literal with single quotes, and the answers of the grammar, as the model computes them.
use Rattle.std.proofs.Common.{◌≡◌, ℕ, List, [], Result, refl, sym, ◌∙◌, length, true, false, arith}
use Rattle.std.specs.Str.{chars, IsUtf8}
use Rattle.std.proofs.lemmas.{Str.{encodes-chars}, Grind.{common_steps}}
use Rattle.std.specs.{Option.{option_to_list}, Result.{result_err}}
use Rattle.rustc_literal_escaper.specs.declared.{element.Element.{Element}, error.EscapeError.{EscapeError}}
use Rattle.rustc_literal_escaper.specs.model.Elements.{place}
use Rattle.rustc_literal_escaper.specs.model.Single.{alone, literal, StartsWithSingle, alone_error, only, read_errors}
use Rattle.rustc_literal_escaper.specs.model.Single.{read_single, single_error}
use Rattle.rustc_literal_escaper.specs.declared.mode.Mode.{Mode}
use Rattle.rustc_literal_escaper.specs.Answers.{errors_of, items_of, single_of, without_range}
use Rattle.rustc_literal_escaper.specs.Meaning.{error_of, errors_in, is_raw, is_single}

pub alone_whole : {U : Type 0} (meant : Result U EscapeError) → alone meant [] ≡ meant
alone_whole meant = grind (arith, common_steps)

-- A literal with a single element has the value of that element.
pub literal_is : {U : Type 0} (meaning : Element → Result U EscapeError) (s : List ℕ) (e : Element)
    → StartsWithSingle s e [] → meaning e ≡ literal meaning s
literal_is meaning s e h = sym (literal-starts s h)
  where
    literal-starts : (s : List ℕ) → StartsWithSingle s e [] → literal meaning s ≡ meaning e
    literal-starts s h = grind (arith, common_steps, alone_whole)

only-value : {U : Type 0} (total : ℕ) (meant : Result U EscapeError) (left : List ℕ)
    → without_range (only total meant left) ≡ alone meant left
only-value total meant left = grind (arith, common_steps)

only-error : {U : Type 0} (total : ℕ) (meant : Result U EscapeError) (left : List ℕ)
    → result_err (only total meant left) ≡ alone_error (place total) (result_err meant) left
only-error total meant left = grind (arith, common_steps)

pub literal_read : {U : Type 0} (meaning : Element → Result U EscapeError) (s : List ℕ)
    → without_range (single_of meaning s) ≡ literal meaning s
literal_read meaning s = grind (arith, common_steps, only-value)

error-is : {U : Type 0} (meaning : Element → Result U EscapeError) (mode : Mode) (total : ℕ) (s : List ℕ)
    → ((e : Element) → result_err (meaning e) ≡ error_of mode e)
    → result_err (read_single total meaning s) ≡ single_error (place total) mode s
error-is meaning mode total s w4 = grind (arith, common_steps, only-error)

pub errors_of-read : (mode : Mode) (text : List ℕ) → IsUtf8 text → errors_of mode text ≡ read_errors mode text
errors_of-read mode text w2 = grind (arith, common_steps, error-is, encodes-chars)

-- The errors of a literal with single quotes.
pub errors_of-single : (mode : Mode) (text : List ℕ) → IsUtf8 text → is_single mode ≡ true
    → errors_of mode text ≡ option_to_list (single_error (place (length text)) mode (chars text))
errors_of-single mode text is single = errors_of-read mode text is ∙ rw single refl

-- The errors of a literal with double quotes.
pub errors_of-items : (mode : Mode) (text : List ℕ) → is_single mode ≡ false
    → errors_of mode text ≡ errors_in mode (items_of (is_raw mode) text)
errors_of-items mode text double = grind (arith, common_steps)
