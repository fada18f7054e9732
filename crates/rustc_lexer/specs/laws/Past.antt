-- The text after the first characters of a text.
use Rattle.std.proofs.Common.{◌≡◌, ℕ, ◌+◌, ◌≤◌, List, [], ◌++◌, length, take, drop, refl, sym, ap, ◌∙◌, arith}
use Rattle.std.proofs.Common.{length-append, take-append-drop, drop_at, drop-drop}
use Rattle.std.specs.{Char.{encode_utf8}, Str.{chars, encode_utf8_all, IsUtf8}}
use Rattle.std.proofs.lemmas.Str.{chars-encodes, encodes-chars, scalars-chars, encodes-append, chars_past_char}
use Rattle.std.proofs.lemmas.Str.{IsUtf8-past_char}
use Rattle.rustc_lexer.specs.model.Scan.{past, bytes_of}
use Rattle.rustc_lexer.specs.laws.Texts.{scalars-drop}

pub past-zero : (text : List ℕ) → IsUtf8 text → past 0 text ≡ text
unfolding past
past-zero text is = encodes-chars text is

pub chars-past : (n : ℕ) (text : List ℕ) → IsUtf8 text → chars (past n text) ≡ drop n (chars text)
unfolding past
chars-past n text is = chars-encodes (drop n (chars text)) (scalars-drop n (chars text) (scalars-chars text is))

pub past-past : (m n : ℕ) (text : List ℕ) → IsUtf8 text → past m (past n text) ≡ past (n + m) text
unfolding past
past-past m n text is = ap (λ cs. encode_utf8_all (drop m cs)) (chars-past n text is)
    ∙ ap encode_utf8_all (drop-drop m n (chars text))

pub past-two : (text tail rest : List ℕ) → IsUtf8 text → tail ≡ past 1 text → rest ≡ past 1 tail → rest ≡ past 2 text
past-two text tail rest is e f = f ∙ (ap (past 1) e ∙ past-past 1 1 text is)

pub IsUtf8-past : (n : ℕ) (text : List ℕ) → IsUtf8 text → IsUtf8 (past n text)
unfolding past
IsUtf8-past n text is = (drop n (chars text), (scalars-drop n (chars text) (scalars-chars text is), refl))

pub IsUtf8-cut : (n : ℕ) (text rest : List ℕ) → IsUtf8 text → rest ≡ past n text → IsUtf8 rest
IsUtf8-cut n text rest is cut = rw cut (IsUtf8-past n text is)

-- A text consists of its first n characters and the text after them.
pub split_past : (n : ℕ) (text : List ℕ) → IsUtf8 text → text ≡ encode_utf8_all (take n (chars text)) ++ past n text
unfolding past
split_past n text is = sym (encodes-chars text is)
    ∙ (ap encode_utf8_all (sym (take-append-drop n (chars text)))
    ∙ encodes-append (take n (chars text)) (drop n (chars text)))

pub length-past : (n : ℕ) (text : List ℕ) → IsUtf8 text → bytes_of n (chars text) + length (past n text) ≡ length text
length-past n text is =
    omega (arith, ap length (split_past n text is), length-append (encode_utf8_all (take n (chars text))) (past n text))

pub past_le : (n : ℕ) (text : List ℕ) → IsUtf8 text → length (past n text) ≤ length text
past_le n text is = omega (arith, length-past n text is)

pub past-drop : (n : ℕ) (text : List ℕ) → IsUtf8 text → past n text ≡ drop (bytes_of n (chars text)) text
past-drop n text is =
    sym (ap (drop (bytes_of n (chars text))) (split_past n text is) ∙ drop_at (encode_utf8_all (take n (chars text)))
    (past n text) _ refl)

-- A text without characters has no text after the first one either.
pub past_end : (text : List ℕ) → IsUtf8 text → chars text ≡ [] → text ≡ past 1 text
unfolding past
past_end text is e = sym (encodes-chars text is)
    ∙ (ap encode_utf8_all e ∙ sym (ap (λ cs. encode_utf8_all (drop 1 cs)) e))

-- The text after its first character is the rest.
pub past-one : (text rest : List ℕ) (c : ℕ) → IsUtf8 text → text ≡ encode_utf8 c ++ rest → past 1 text ≡ rest
unfolding past
past-one text rest c is e = ap (λ cs. encode_utf8_all (drop 1 cs)) (chars_past_char text rest c is e)
    ∙ encodes-chars rest (IsUtf8-past_char text rest c is e)
