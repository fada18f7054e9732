-- Characters and lifetimes, as the code reads them.
use Rattle.std.proofs.Common.{◌≡◌, ℕ, zero, suc, ◌+◌, ◌-◌, ◌≤◌, ◌&&◌, ◌||◌, not, Bool, true, false, ltb, if◌then◌else◌}
use Rattle.std.proofs.Common.{List, [], ◌∷◌, length, take, drop, codes, sym, ap, ◌∙◌, arith, length-append}
use Rattle.std.proofs.Common.{length-take-le, lt-ltb, le-ltb}
use Rattle.std.specs.{Char.{is_ascii_digit, encode_utf8, len_utf8}, List.{list_all}, Str.{chars, IsUtf8}}
use Rattle.std.proofs.{lemmas.Str.{length-encode, length-le-encodes}, Math.Bool.{not-not}, lemmas.Grind.{common_steps}}
use Rattle.rustc_lexer.specs.{TokenKind, Char, Literal, Lifetime, UnknownPrefixLifetime}
use Rattle.rustc_lexer.specs.{Classes.{is_id_continue, is_word_continue}, Tables.{is_emoji}}
use Rattle.rustc_lexer.specs.model.Lifetime.{past_name, plain_lifetime, lifetime, is_character, is_character_at}
use Rattle.rustc_lexer.specs.model.Lifetime.{lifetime_or_char}
use Rattle.rustc_lexer.specs.{laws.Lifetime.{name_of, unquoted_name}, model.{Literal.{literal}, Quoted.{char_body}}}
use Rattle.rustc_lexer.specs.{laws.Reach.{run_len_le}, model.Scan.{begins, bytes_of, past, run_len, scanned}}
use Rattle.rustc_lexer.specs.laws.Past.{past-zero, past-past, chars-past, length-past, IsUtf8-past}
use Rattle.rustc_lexer.proofs.lemmas.tokens.Identifiers.{has_emoji, word_runs, word_all, word_more}
use Rattle.rustc_lexer.specs.laws.Scan.{scanned-and_then, scanned-no, scanned-yes}

-- The text after its first character.
module _ (text tail : List ℕ) (c : ℕ) (is : IsUtf8 text) (reads : chars text ≡ c ∷ chars tail)
    (cut : tail ≡ past 1 text) where
  pub first-length : len_utf8 c + length tail ≡ length text
  first-length =
      let one : bytes_of 1 (chars text) ≡ len_utf8 c =
      rw reads (omega (arith, length-append (encode_utf8 c) [], length-encode c)) in
      omega (arith, length-past 1 text is, ap length cut)

  pub pick-name : (r : TokenKind × List ℕ) → is_character c (chars tail) ≡ false → r ≡ scanned (lifetime c) tail
      → r ≡ scanned lifetime_or_char text
  pick-name r t e = grind (arith, common_steps, past-past)

-- A text is longer than the text after n of its characters exactly if n is not 0.
pub shorter-by : (n : ℕ) (text rest : List ℕ) → IsUtf8 text → n ≤ length (chars text) → rest ≡ past n text
    → ltb (length rest) (length text) ≡ ltb 0 n
shorter-by zero text rest is le cut =
    le-ltb (length rest) (length text) (omega (arith, ap length (cut ∙ past-zero text is)))
shorter-by (suc n) text rest is le cut =
    let some : length (take (suc n) (chars text)) ≡ suc n = length-take-le (suc n) (chars text) le in
    lt-ltb (length rest) (length text)
    (omega (arith, ap length cut, length-past (suc n) text is, length-le-encodes (take (suc n) (chars text))))
    ∙ sym (lt-ltb 0 (suc n) (omega arith))

-- A name without a quote after it ends at its last character.
past-unquoted_name : (c : ℕ) (name end : List ℕ) → IsUtf8 end → begins (codes "'") (chars end) ≡ false
    → ((unquoted_name c name (chars end)).0, end) ≡ scanned (past_name c name) end
past-unquoted_name c name end is t = grind (arith, common_steps, past-zero, scanned-no)

-- The run of a name, read in two parts.
module _ (c : ℕ) (rest part end : List ℕ) (is : IsUtf8 rest)
    (first : part ≡ past (run_len is_id_continue (chars rest)) rest)
    (second : end ≡ past (run_len is_word_continue (chars part)) part) where
  abbrev plain : ℕ
  plain = run_len is_id_continue (chars rest)

  abbrev whole : ℕ
  whole = run_len is_word_continue (chars rest)

  part-chars : chars part ≡ drop plain (chars rest)
  part-chars = cc (chars-past plain rest is)

  end-is : end ≡ past whole rest
  end-is = grind (arith, common_steps, part-chars, past-past, word_runs)

  emoji-is : ltb (length end) (length part) ≡ not (list_all is_id_continue (take whole (chars rest)))
  emoji-is =
      grind (
        arith,
        common_steps,
        first,
        IsUtf8-past plain rest is,
        shorter-by (run_len is_word_continue (chars part)) part end (rw first (IsUtf8-past plain rest is))
            (run_len_le is_word_continue (chars part)) second,
        part-chars,
        word_more (chars rest),
        word_all (chars rest),
        not-not (has_emoji (chars rest)),
      )

  plain_lifetime-is : scanned (plain_lifetime c) rest ≡ scanned (past_name c (take whole (chars rest))) end
  plain_lifetime-is = scanned-and_then name_of (past_name c) rest end (take whole (chars rest)) is
      (cc (end-is))

  pub plain_lifetime-quoted : (left : List ℕ) (w : ℕ) → begins (codes "'") (chars end) ≡ true → left ≡ past 1 end
      → w ≡ len_utf8 c
      → (Literal (Char true) (2 + (w + (length rest - length end))), left) ≡ scanned (plain_lifetime c) rest
  plain_lifetime-quoted left w t cut is_w =
      grind (arith, common_steps, end-is, length-past, length-append, length-encode, scanned-yes, plain_lifetime-is)

  pub plain_lifetime-unquoted_name : (kind : TokenKind) (emoji : Bool) → begins (codes "'") (chars end) ≡ false
      → emoji ≡ ltb (length end) (length part)
      → kind ≡ (if begins (codes "#") (chars end) && not (is_ascii_digit c) then UnknownPrefixLifetime else Lifetime
      (is_ascii_digit c || is_emoji c || emoji))
      → (kind, end) ≡ scanned (plain_lifetime c) rest
  plain_lifetime-unquoted_name kind emoji t same e =
      grind (
        arith,
        common_steps,
        end-is,
        IsUtf8-past whole rest is,
        e,
        same,
        emoji-is,
        past-unquoted_name c (take whole (chars rest)) end (rw end-is (IsUtf8-past whole rest is)) t,
        plain_lifetime-is,
      )

-- A character is read if the bytes in front are one character and a quote.
pub at_char : (text : List ℕ) (r : TokenKind × List ℕ) → is_character_at (chars text) ≡ true
    → r ≡ scanned (literal char_body) text → r ≡ scanned lifetime_or_char text
at_char text r t e = grind (arith, common_steps)
