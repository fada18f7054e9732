-- The check of a raw string, and a guarded string, as numbers.
use Rattle.std.specs.Prelude.{ℕ, List, Option, Some, None, Result, Ok, Err}
use Rattle.rustc_lexer.specs.declared.token.GuardedStr.{GuardedStr}
use Rattle.rustc_lexer.specs.declared.token.RawStrError.{RawStrError}
use Rattle.rustc_lexer.specs.declared.token.RawStrError.TheVariants.{InvalidStarter, NoTerminator, TooManyDelimiters}
use Rattle.rustc_lexer.specs.Answers.{guarded}
use Rattle.rustc_lexer.specs.LanguageText.{part, newest}
use Rattle.rustc_lexer_c.specs.declared.raw_str.CGuardedStr.{CGuardedStr}
use Rattle.rustc_lexer_c.specs.declared.raw_str.CRawStrError.{CRawStrError}
use Rattle.rustc_lexer_c.specs.Numbers.{bool_number, some_number, some_or_zero}

abbrev pub no_error : CRawStrError
no_error =
    record {
      error = 0;
      bad_char = 0;
      expected = 0;
      found = 0;
      has_offset = 0;
      possible_terminator_offset = 0;
    }

-- Returns the error of a raw string as numbers. A field that the error does not have is 0.
abbrev pub answer_numbers : Result (Unit {0}) RawStrError → CRawStrError
answer_numbers (Ok u) = no_error
answer_numbers (Err (InvalidStarter bad_char)) = record no_error { error = 1; bad_char = bad_char }
answer_numbers (Err (NoTerminator expected found offset)) =
    record no_error {
      error = 2;
      expected = expected;
      found = found;
      has_offset = some_number offset;
      possible_terminator_offset = some_or_zero offset;
    }
answer_numbers (Err (TooManyDelimiters found)) = record no_error { error = 3; found = found }

-- Returns a guarded string as numbers, which are all 0 if there is none.
unfoldable pub guarded_numbers : Option GuardedStr → CGuardedStr
guarded_numbers None = record { is_some = 0; n_hashes = 0; terminated = 0; token_len = 0 }
guarded_numbers (Some s) =
    record {
      is_some = 1;
      n_hashes = s.n_hashes;
      terminated = bool_number s.terminated;
      token_len = s.token_len;
    }

-- Returns the guarded string at the start of a text, as numbers.
abbrev pub guarded_at : List ℕ → CGuardedStr
guarded_at text =
    guarded_numbers (guarded record { pending = 0; rest = text; mode = part newest }).0
