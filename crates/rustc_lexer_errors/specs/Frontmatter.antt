-- The error of a frontmatter, in terms of the lexer's grammar. The grammar accepts all frontmatters, including the
-- malformed ones after which rustc recovers; RFC 3503 accepts only those that a line with as many dashes closes. As in
-- FrontmatterGrammar, `body` is the text of the token after the opening, and `next` is all of the text after the token.
--
-- rustc converts CRLF to a newline before it lexes, and this lexer does not. So a first line that ends with CRLF makes
-- the infostring invalid in the token's kind, and the carriage return of the last line is part of the token.
use Rattle.std.specs.Prelude.{◌≡◌, ◌≤◌, ◌<◌, ℕ, Bool, true, false, ◌==◌, ◌&&◌, ◌||◌, not, nat_eq, if◌then◌else◌}
use Rattle.std.specs.Prelude.{List, ◌∷◌, ◌++◌, chars, codes, get_or, length, Option, Some, None}
use Rattle.std.specs.Option.{option_or}
use Rattle.std.specs.Str.{byte}
use Rattle.rustc_lexer.specs.Classes.{Chars, Utf8, AreAll, NextNotIn, begins, is_horizontal_whitespace, is_inline}
use Rattle.rustc_lexer.specs.Classes.{is_whitespace, next_is}
use Rattle.rustc_lexer.specs.FrontmatterGrammar.{IsAt, IsBodyBefore, IsNowhere, IsOpeningBefore, endings, fence}
use Rattle.rustc_lexer_errors.specs.declared.errors.TokenError.{TokenError}
use Rattle.rustc_lexer_errors.specs.declared.errors.TokenError.TheVariants.{WhitespaceBeforeFrontmatter}
use Rattle.rustc_lexer_errors.specs.declared.errors.TokenError.TheVariants.{InvalidInfostring, UnclosedFrontmatter}
use Rattle.rustc_lexer_errors.specs.declared.errors.TokenError.TheVariants.{WhitespaceBeforeFrontmatterClose}
use Rattle.rustc_lexer_errors.specs.declared.errors.TokenError.TheVariants.{FrontmatterCloseMismatch}
use Rattle.rustc_lexer_errors.specs.declared.errors.TokenError.TheVariants.{ExtraAfterFrontmatterClose}
use Rattle.rustc_lexer_errors.specs.TextError.{frontmatter_error}

-- Whether the rest of a line is empty, or is the carriage return of a CRLF. A token ends before the newline, so at the
-- end of a text this carriage return looks like a bare one.
unfoldable pub is_end : List ℕ → Bool
is_end rest = nat_eq (length rest) 0 || nat_eq (length rest) 1 && get_or rest 0 0 == byte "\r"

-- Holds if no line of the text starts with n dashes. The first line is not counted.
abbrev pub NoLineBegins : ℕ → Chars → Type 0
NoLineBegins n s = IsNowhere (IsAt (byte "\n" ∷ fence n)) s

-- Holds if the last line of the text starts with these spaces and tabs and then three dashes, and is not the first
-- line.
abbrev pub EndsAfter : Chars → Chars → Type 0
EndsAfter blanks body =
    (u w : Chars) × (body ≡ u ++ byte "\n" ∷ (blanks ++ (fence 3 ++ w)))
    × AreAll is_horizontal_whitespace blanks × AreAll is_inline w

-- Holds if no line up to the end of the text closes the frontmatter.
abbrev pub IsOpen : Chars → Chars → Type 0
IsOpen body next = NoLineBegins 3 (body ++ next) × ((blanks : Chars) → EndsAfter blanks body → ⊥)

-- Relates the body of a frontmatter whose opening fence has n dashes to the error at its end, or to `None` if it is
-- valid.
pub data IsEndError (n : ℕ) (next : Chars) : Chars → Option TokenError → Type 0 where
  -- There is no error: the last line consists of n dashes, then spaces and tabs, and perhaps the carriage return of a
  -- CRLF.
  closed : (u blanks end : Chars)
      → AreAll is_horizontal_whitespace blanks
      → is_end end ≡ true
      → IsEndError n next (u ++ byte "\n" ∷ (fence n ++ (blanks ++ end))) None
  -- The last line has other text after the fence.
  more_words : (u blanks : Chars) (c : ℕ) (w : Chars)
      → AreAll is_horizontal_whitespace blanks
      → is_horizontal_whitespace c ≡ false
      → is_end (c ∷ w) ≡ false
      → NextNotIn (codes "-") (blanks ++ c ∷ w)
      → AreAll is_inline (c ∷ w)
      → IsEndError n next (u ++ byte "\n" ∷ (fence n ++ (blanks ++ c ∷ w))) (Some ExtraAfterFrontmatterClose)
  -- The last line has more than n dashes; or it has fewer, but at least three, and then no line up to the end of the
  -- text starts with n dashes.
  other_dashes : (u w : Chars) (m : ℕ)
      → 3 ≤ m
      → (m ≤ n → (m < n) × NoLineBegins n (u ++ byte "\n" ∷ (fence m ++ w) ++ next))
      → NextNotIn (codes "-") w
      → AreAll is_inline w
      → IsEndError n next (u ++ byte "\n" ∷ (fence m ++ w)) (Some (FrontmatterCloseMismatch n m))
  -- Whitespace precedes the fence of the last line, and no line up to the end of the text starts with three dashes.
  indented : {body : Chars} (blanks : Chars)
      → NoLineBegins 3 (body ++ next)
      → 0 < length blanks
      → EndsAfter blanks body
      → IsEndError n next body (Some WhitespaceBeforeFrontmatterClose)
  -- No line closes the frontmatter.
  unclosed : {body : Chars} → IsOpen body next → IsEndError n next body (Some UnclosedFrontmatter)

-- Returns the error of a frontmatter without leading whitespace, from whether its infostring is invalid and the error at
-- its end, which comes first.
abbrev pub front_error : Bool → Option TokenError → Option TokenError
front_error bad_label (Some error) = Some error
front_error true None = Some InvalidInfostring
front_error false None = None

-- A reading of a text as a frontmatter by the grammar, if `next` follows it. The Booleans are the flags of the token:
-- whether whitespace precedes the dashes, and whether the infostring is invalid.
pub record Reading (space bad_label : Bool) (text : Utf8) : Type 0 where
  pub n : ℕ
  pub opening : Chars
  pub body : Chars
  pub next : Chars
  pub opens : IsOpeningBefore (body ++ next) n bad_label opening
  pub ends : IsBodyBefore next (endings n) body
  pub whole : chars text ≡ opening ++ body
  pub starts : next_is is_whitespace opening ≡ space

-- Holds if this is the error of a text that is read as a frontmatter: whitespace before the opening fence, or else the
-- error at its end, or else an invalid infostring, or else an error in its text. An infostring is not invalid if a CRLF
-- directly follows it.
pub record IsErrorOf {space bad_label : Bool} {text : Utf8} (r : Reading space bad_label text)
    (error : Option TokenError) : Type 0 where
  pub end : Option TokenError
  pub is : IsEndError r.n r.next r.body end
  pub told : error
      ≡ option_or
      (if space then Some WhitespaceBeforeFrontmatter
      else front_error (bad_label && not (begins (codes "\r\n") r.body)) end)
      (frontmatter_error text)

-- Holds if this is the error of a text, however the grammar reads it as a frontmatter with these flags.
abbrev pub IsFrontmatterError : Bool → Bool → Utf8 → Option TokenError → Type 0
IsFrontmatterError space bad_label text error = (r : Reading space bad_label text) → IsErrorOf r error
