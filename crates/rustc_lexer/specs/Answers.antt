-- The results that the grammar allows, under the names that contracts use. Each result comes from a value whose type
-- states that the grammar allows this result and no other, so only this type has to be read. How a result is found, and
-- the proof that it is the only one, are in laws/TheAnswers.antt.
use Rattle.std.specs.Prelude.{ℕ, ◌<◌, List, length, drop, Option, Result, chars}
use Rattle.rustc_lexer.specs.{Edition, GuardedStr, RawStrError, Token}
use Rattle.rustc_lexer.specs.Classes.{IsText, Utf8}
use Rattle.rustc_lexer.specs.LanguageCalls.{IsRawAnswer, IsShebang}
use Rattle.rustc_lexer.specs.LanguageText.{Mode, AreTokens, TheOnly, year}
use Rattle.rustc_lexer.specs.Locality.{Grammar}
use Rattle.rustc_lexer.specs.State.{IsFirst, TakesGuarded, TakesNext, State}
use Rattle.rustc_lexer.specs.laws.TheAnswers.{the_next, the_guarded, the_raw, the_shebang}
use Rattle.rustc_lexer.specs.laws.TheLaws.{the_laws}

-- Returns the tokens of a text.
abbrev pub tokens_of : Mode → Utf8 → List Token
tokens_of mode text =
    let the : TheOnly (IsText text) (AreTokens mode (chars text)) = the_laws.tokens mode text in
    the.answer

-- Returns the first token of a text, lexed as a fragment in an edition.
abbrev pub first_in : Edition → Utf8 → Token
first_in edition text =
    let the : TheOnly (IsText text × (0 < length text)) (IsFirst edition text) =
    the_laws.first edition text in
    the.answer

-- Returns the grammar of an edition, with the year of the edition as its id.
abbrev pub grammar_of : Edition → Grammar
grammar_of edition = record { first = first_in edition; id = year edition }

-- Returns the next token of a cursor, and the cursor's state after it.
abbrev pub advance : State → Token × State
advance s =
    let the : TheOnly (IsText s.rest) (TakesNext s) = the_next s in
    the.answer

-- Returns the guarded string at a cursor, if one starts there, and the cursor's state after reading it.
abbrev pub guarded : State → Option GuardedStr × State
guarded s =
    let the : TheOnly (Unit {0}) (TakesGuarded s) = the_guarded s in
    the.answer

-- Returns Ok if the raw string with this prefix is valid, otherwise the error.
abbrev pub raw_check : Utf8 → ℕ → Result Unit RawStrError
raw_check text prefix =
    let the : TheOnly (Unit {0}) (IsRawAnswer prefix (drop prefix (chars text))) =
    the_raw text prefix in
    the.answer

-- Returns the length of the shebang line of a text in bytes, or None if there is no shebang line.
abbrev pub shebang : Utf8 → Option ℕ
shebang text =
    let the : TheOnly (IsText text) (IsShebang text) = the_shebang text in
    the.answer
