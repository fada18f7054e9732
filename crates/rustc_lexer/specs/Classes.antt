-- Texts as characters and as bytes, classes of characters, and how a text starts. The crate `unicode_ident` defines
-- which characters can start and continue an identifier, from `DerivedCoreProperties.txt` of Unicode 18.0. Whitespace
-- is `Pattern_White_Space`, which is the same in every version of Unicode. Names in capitals are productions of the
-- Rust Reference (see Language.antt).
use Rattle.std.specs.Prelude.{◌≡◌, ◌==◌, ◌&&◌, ◌||◌, ℕ, not, Bool, true, false, List, [], ◌∷◌, length, drop, ◌<◌, ◌^◌}
use Rattle.std.specs.Prelude.{codes, encode_utf8_all, IsUtf8}
use Rattle.std.specs.{Char.is_ascii_digit, List.list_all, List.list_any, Str.byte}
use Rattle.unicode_ident.specs.Ident.{is_xid_start, is_xid_continue}
use Rattle.rustc_lexer.specs.Tables.{is_emoji}

-- The type `Chars` is a text as a list of characters.
abbrev pub Chars : Type 0
Chars = List ℕ

-- The type `Utf8` is a text as a list of bytes, in UTF-8.
abbrev pub Utf8 : Type 0
Utf8 = List ℕ

-- Returns the length of the characters in bytes, in UTF-8.
abbrev pub bytes : Chars → ℕ
bytes w = length (encode_utf8_all w)

-- Holds if the length of the text, in bytes, fits in 32 bits.
abbrev pub Fits : List ℕ → Type 0
Fits text = length text < 2 ^ 32

-- Holds if the text can be lexed: it is valid UTF-8 and shorter than 4 GiB.
pub record IsText (text : List ℕ) : Type 0 where
  pub utf8 : IsUtf8 text
  pub fits : length text < 2 ^ 32

-- ---- classes

-- Whether the character is in the list.
abbrev pub is_among : List ℕ → ℕ → Bool
is_among ds c = list_any (λ d. c == d) ds

-- Whether the character is whitespace (WHITESPACE): tab, line feed, vertical tab, form feed, carriage return, space,
-- next line, the left-to-right and right-to-left marks, or the line and paragraph separators.
abbrev pub is_whitespace : ℕ → Bool
is_whitespace c =
    is_among (0x9 ∷ 0xA ∷ 0xB ∷ 0xC ∷ 0xD ∷ 0x20 ∷ 0x85 ∷ 0x200E ∷ 0x200F ∷ 0x2028 ∷ 0x2029 ∷ []) c

-- Whether the character is a tab or a space. The Reference has no name for this class.
abbrev pub is_horizontal_whitespace : ℕ → Bool
is_horizontal_whitespace c = is_among (0x9 ∷ 0x20 ∷ []) c

-- Whether the character can start an identifier: XID_Start of Unicode, and the underscore.
abbrev pub is_id_start : ℕ → Bool
is_id_start c = c == 0x5F || is_xid_start c

-- Whether the character can continue an identifier: XID_Continue of Unicode, which contains the underscore.
abbrev pub is_id_continue : ℕ → Bool
is_id_continue c = is_xid_continue c

-- Whether the text is an identifier (IDENTIFIER_OR_KEYWORD): a character that can start an identifier, followed only by
-- characters that can continue it.
abbrev pub is_ident : List ℕ → Bool
is_ident [] = false
is_ident (c ∷ cs) = is_id_start c && list_all is_id_continue cs

-- Whether the character is not a newline.
abbrev pub is_inline : ℕ → Bool
is_inline c = not (c == byte "\n")

-- Whether the character can start a word. A word is an identifier, or it is invalid because of an emoji. Invalid words
-- are not in the Reference.
abbrev pub is_word_start : ℕ → Bool
is_word_start c = is_id_start c || is_emoji c

-- Whether the character can continue a word.
abbrev pub is_word_continue : ℕ → Bool
is_word_continue c = is_id_continue c || is_emoji c

-- Whether the character can start the name of a lifetime. A name that starts with a digit or an emoji is invalid.
abbrev pub is_name_start : ℕ → Bool
is_name_start c = is_id_start c || is_ascii_digit c || is_emoji c

-- Whether the name of a lifetime is invalid: it starts with a digit or an emoji, or a later character is an emoji that
-- cannot continue an identifier. `1`, `😀`, `ℹ` and `a😀` are invalid, `aℹ` is valid. The Reference has no rule for
-- invalid names.
abbrev pub is_bad_name : Chars → Bool
is_bad_name [] = false
is_bad_name (c ∷ w) = is_ascii_digit c || is_emoji c || not (list_all is_id_continue w)

-- Whether a word directly before this character is a prefix: the character is the hash or one of the quotes of
-- RESERVED_TOKEN_POUND, RESERVED_TOKEN_DOUBLE_QUOTE and RESERVED_TOKEN_SINGLE_QUOTE.
abbrev pub ends_prefix : ℕ → Bool
ends_prefix c = is_among (codes "#\"'") c

-- Whether the character can continue the infostring of a frontmatter.
abbrev pub is_info : ℕ → Bool
is_info c = is_id_continue c || is_among (codes "-.") c

-- ---- how a text starts

-- Whether the text starts with the characters of the first list.
abbrev pub begins : Chars → Chars → Bool
begins [] s = true
begins (c ∷ cs) [] = false
begins (c ∷ cs) (d ∷ s) = d == c && begins cs s

-- Whether the text starts with a character of the class. This is false if the text is empty.
abbrev pub next_is : (ℕ → Bool) → Chars → Bool
next_is p [] = false
next_is p (c ∷ s) = p c

-- Holds if all characters are in the class.
abbrev pub AreAll : (ℕ → Bool) → Chars → Type 0
AreAll p w = list_all p w ≡ true

-- Holds if the next character is in the class.
abbrev pub NextIs : (ℕ → Bool) → Chars → Type 0
NextIs p s = next_is p s ≡ true

-- Holds if the next character is not in the class, or the text ends.
abbrev pub NextIsNot : (ℕ → Bool) → Chars → Type 0
NextIsNot p s = next_is p s ≡ false

-- Holds if the next character is in the list.
abbrev pub NextIn : Chars → Chars → Type 0
NextIn cs s = NextIs (is_among cs) s

-- Holds if the next character is not in the list, or the text ends.
abbrev pub NextNotIn : Chars → Chars → Type 0
NextNotIn cs s = NextIsNot (is_among cs) s

-- Whether the text starts with the prefix, followed by the start of an identifier.
abbrev pub begins_ident_after : Chars → Chars → Bool
begins_ident_after prefix s = begins prefix s && next_is is_id_start (drop (length prefix) s)
