-- The error between single quotes.
use Rattle.std.proofs.Common.{◌≡◌, true, List, ℕ, Option, Result, sym, true≢false, arith, length, refl}
use Rattle.std.proofs.Common.{IsUtf8}
use Rattle.std.specs.{Option.{option_map}, Result.{result_err}, Str.{chars}}
use Rattle.std.proofs.lemmas.Grind.{common_steps}
use Rattle.rustc_literal_escaper.proofs.AnswerLemmas.{literal_read}
use Rattle.rustc_literal_escaper.specs.{Answers.{single_of, without_range}, Grammar.{Error}}
use Rattle.rustc_literal_escaper.specs.Meaning.{byte_of, char_of, error_of, is_single}
use Rattle.rustc_literal_escaper.specs.declared.{element.Element.{Element}, error.EscapeError.{EscapeError}}
use Rattle.rustc_literal_escaper.specs.declared.mode.Mode.{Mode, TheVariants.{Char, Byte}}
use Rattle.rustc_literal_escaper.specs.model.Elements as reading
use Rattle.rustc_literal_escaper.specs.model.Single.{alone, alone_error, literal, single_error}
use Rattle.rustc_lexer_errors.specs.LineEnds.{char_error, moved, unix}
use Rattle.rustc_lexer_errors.specs.model.LineEnds.{single_left}
use Rattle.rustc_lexer_errors.proofs.LineEndLemmas.{chars-unix}

abbrev kind : Option Error → Option EscapeError
kind o = option_map (λ (e : Error). e.1) o

alone-error : {U : Type 0} (meant : Result U EscapeError) (left : List ℕ) (offset : List ℕ → ℕ)
    → kind (alone_error offset (result_err meant) left) ≡ result_err (alone meant left)
alone-error meant left offset = grind (arith, common_steps)

literal-error : {U : Type 0} (meaning : Element → Result U EscapeError) (mode : Mode) (offset : List ℕ → ℕ) (s : List ℕ)
    → ((e : Element) → result_err (meaning e) ≡ error_of mode e)
    → kind (single_error offset mode s) ≡ result_err (literal meaning s)
literal-error meaning mode offset s w4 = grind (arith, common_steps, alone-error)

kind-moved : (text : List ℕ) (o : Option Error) → kind (option_map (λ (e : Error). (moved text e.0, e.1)) o) ≡ kind o
kind-moved text o = grind (arith, common_steps)

single-error : {U : Type 0} (meaning : Element → Result U EscapeError) (mode : Mode) (text : List ℕ) → IsUtf8 text
    → ((e : Element) → result_err (meaning e) ≡ error_of mode e)
    → kind (single_left text mode (unix (chars text))) ≡
    result_err (without_range (single_of meaning (chars (unix text))))
single-error meaning mode text is same =
    cc (
      kind-moved text (single_error (reading.place (length (unix text))) mode (unix (chars text))),
      literal-error meaning mode (reading.place (length (unix text))) (unix (chars text)) same,
      literal_read meaning (unix (chars text)),
      chars-unix text is,
    )

-- Returns `Char` for a mode without single quotes.
pub error_found : (mode : Mode) (text : List ℕ) (found : Option Error) → IsUtf8 text → is_single mode ≡ true
    → found ≡ single_left text mode (unix (chars text)) → option_map (λ (e : Error). e.1) found ≡ char_error mode text
error_found Byte text found is single f = rw f (single-error byte_of Byte text is (λ e. refl))
error_found Char text found is single f = rw f (single-error char_of Char text is (λ e. refl))
error_found mode text found is single f = absurd (true≢false (sym single))
