-- Tokens that can be decided by their bytes.
use Rattle.std.proofs.Common.{◌≡◌, ℕ, ◌+◌, ◌-◌, ◌<◌, ◌≤◌, ◌==◌, not, Bool, true, false, List, ◌∷◌}
use Rattle.std.proofs.Common.{length, drop, codes, refl, sym, ◌∙◌, arith, length-drop}
use Rattle.std.specs.{List.{prefix_len}, Str.{chars, IsUtf8}}
use Rattle.std.proofs.lemmas.Bool.{or_parts, or_cases, not-true, not-false, eqb-true, ltb-true, lt-leb}
use Rattle.std.proofs.lemmas.{Str.{chars-nil}, List.Sums.{prefix_len-le-length}, Grind.{common_steps}}
use Rattle.unicode_ident.proofs.IdentLemmas.{is_xid_continue-ascii}
use Rattle.rustc_lexer.specs.{TokenKind, Ident, Whitespace}
use Rattle.rustc_lexer.specs.model.ByteRuns.{is_continue_byte, is_space_byte, is_wide}
use Rattle.rustc_lexer.specs.{Classes.{is_id_continue, ends_prefix}, Tables.{is_emoji}}
use Rattle.rustc_lexer.specs.{model.Ident.{ident_or_unknown_prefix, begins_hash_ident}, laws.Choice.{by_symbol}}
use Rattle.rustc_lexer.specs.laws.LanguageWords.{by_letter}
use Rattle.rustc_lexer.proofs.lemmas.tokens.Editions.{first_by, is_newer}
use Rattle.rustc_lexer.specs.model.Lexeme.{family_of, word, symbols, symbol_kind, past_first, opens_raw, begins_raw}
use Rattle.rustc_lexer.specs.model.Quick.{is_space_lead, turns_word, IsFirstBy, IsFirstToken}
use Rattle.rustc_lexer.specs.model.Scan.{begins, next_is, past, run_len, scanned}
use Rattle.rustc_lexer.proofs.lemmas.tokens.AsciiRuns.{chars-ascii, IsUtf8-ascii, past-ascii, skips, stops_here}
use Rattle.rustc_lexer.proofs.lemmas.tokens.{Identifiers.{ident_or_unknown_prefix-valid}, Lexemes.{made}}
use Rattle.rustc_lexer.proofs.lemmas.tokens.ClassParts.{continue_part}
use Rattle.rustc_lexer.specs.laws.{Past.{chars-past}, Scan.{scanned-gives, scanned-same}}
use Rattle.rustc_lexer.proofs.lemmas.tokens.WhiteSpace.{space_stops_here}
use Rattle.rustc_lexer.specs.declared.lexemes.family.Family.TheVariants.{Space, Symbol, Word}
use Rattle.rustc_lexer.proofs.lemmas.tokens.Families.{by_family}

emoji-ascii : (b : ℕ) → b < 128 → is_emoji b ≡ false
unfolding is_emoji
emoji-ascii b l = rw (lt-leb 128 b l) refl

-- ---- a word is an identifier if the character after it does not end a prefix

-- Holds if the character ends no prefix: it is neither a hash nor a quote.
record NoPrefixEnd (c : ℕ) : Type 0 where
  hash : (c == 35) ≡ false
  double : (c == 34) ≡ false
  single : (c == 39) ≡ false

no_prefix_end : (c : ℕ) → ends_prefix c ≡ false → NoPrefixEnd c
no_prefix_end c e = grind (arith, common_steps, or_parts)

no_raw : (s : List ℕ) → next_is ends_prefix s ≡ false → next_is opens_raw s ≡ false
no_raw s w1 = grind (arith, common_steps, no_prefix_end)

-- Holds if the text after a letter does not turn the letter into the prefix of a raw identifier or a literal.
record IsPlain (s : List ℕ) : Type 0 where
  no_ident : begins_hash_ident s ≡ false
  no_char : begins (codes "'") s ≡ false
  no_string : begins (codes "\"") s ≡ false
  no_hash : next_is opens_raw s ≡ false
  no_letter : begins_raw s ≡ false

is_plain : (s : List ℕ) → next_is ends_prefix (drop (run_len is_id_continue s) s) ≡ false → IsPlain s
is_plain s w1 = grind (arith, common_steps, no_prefix_end, or_cases, no_raw, eqb-true, is_xid_continue-ascii)

word-plain : (b : ℕ) (s : List ℕ) → next_is ends_prefix (drop (run_len is_id_continue s) s) ≡ false
    → word b s ≡ ident_or_unknown_prefix s
word-plain b s h = grind (arith, common_steps, by_letter, is_plain s h)

-- ---- the next character, by the next byte

pub turned-emoji : (left : List ℕ) → IsUtf8 left → next_is turns_word left ≡ false
    → (next_is is_emoji (chars left) ≡ false)
    × ((next_is ends_prefix (chars left) ≡ false) × (next_is is_wide left ≡ false))
turned-emoji w0 is e = grind (arith, common_steps, chars-nil, or_parts, ltb-true, not-false, chars-ascii, emoji-ascii)

-- ---- the tokens

-- A token that starts with an ASCII byte and has n more bytes.
module _ (b : ℕ) (rest : List ℕ) (kind : TokenKind) (n : ℕ) (is : IsUtf8 (b ∷ rest)) (small : b < 128)
    (inside : n ≤ length rest) (g : (kind, drop n rest) ≡ scanned (past_first b) rest) where
  taken : IsFirstToken (b ∷ rest) record { kind = kind; len = 1 + n }
  taken =
      let len : length (b ∷ rest) - length (drop n rest) ≡ 1 + n = omega (arith, length-drop n rest) in
      rw (← len) (made _ rest (drop n rest) b kind is (chars-ascii b rest is small) (past-ascii b rest is small) g)

-- Every edition has the same symbols.
symbol-kept : (b : ℕ) → is_newer (symbol_kind b) ≡ false
symbol-kept b = not-true _ (by_symbol (λ (kind : TokenKind). not (is_newer kind)) symbols b refl refl)

-- The same holds for a text that starts with this byte.
module _ {text : List ℕ} {b : ℕ} {rest : List ℕ} (is : IsUtf8 text) (e : text ≡ b ∷ rest) (small : b < 128) where
  pub first : (kind : TokenKind) (n : ℕ) → n ≤ length rest → (IsUtf8 rest → (kind, drop n rest) ≡
      scanned (past_first b) rest) → IsFirstToken text record { kind = kind; len = 1 + n }
  first kind n inside g =
      let whole = rw e at is in rw e (taken b rest kind n whole small inside (g (IsUtf8-ascii b rest whole small)))

  -- A word whose next byte does not change it is an identifier.
  pub word_first : {end : ℕ} → Word ≡ family_of b → end ≡ prefix_len is_continue_byte rest
      → not (next_is turns_word (drop end rest)) ≡ true → IsFirstToken text record { kind = Ident; len = 1 + end }
  word_first {end} family counted ends =
      first Ident end (omega (arith, prefix_len-le-length is_continue_byte rest)) decided
    where
      decided : IsUtf8 rest → (Ident, drop end rest) ≡ scanned (past_first b) rest
      decided inner =
          let left : List ℕ = drop end rest in
          let whole : IsUtf8 left = rw counted (skips is_continue_byte is_id_continue continue_part rest inner).utf8 in
          let next = turned-emoji left whole (not-true _ ends) in
          let offset : left ≡ past (run_len is_id_continue (chars rest)) rest =
          stops_here is_continue_byte is_id_continue continue_part rest rest end inner refl counted left refl
          next.1.1 in
          let no_end : next_is ends_prefix (drop (run_len is_id_continue (chars rest)) (chars rest)) ≡ false =
          cc (offset, chars-past (run_len is_id_continue (chars rest)) rest inner, next.1.0) in
          by_family Word b rest _ family (rw next.1.0 at (ident_or_unknown_prefix-valid rest left inner offset next.0)
          ∙ sym (scanned-same (word b) ident_or_unknown_prefix rest (word-plain b (chars rest) no_end)))

  pub space_first : {end : ℕ} → Space ≡ family_of b → end ≡ prefix_len is_space_byte rest
      → not (next_is is_space_lead (drop end rest)) ≡ true → IsFirstToken text record { kind = Whitespace; len = 1 + end }
  space_first {end} family counted ends =
      first Whitespace end (omega (arith, prefix_len-le-length is_space_byte rest)) (λ inner.
      by_family Space b rest _ family
      (cc (space_stops_here rest rest end inner refl counted (drop end rest) refl (not-true _ ends))))

  pub symbol_first : {kind : TokenKind} → Symbol ≡ family_of b → kind ≡ symbol_kind b
      → IsFirstToken text record { kind = kind; len = 1 }
  symbol_first family same = first _ 0 (omega arith) (λ inner.
      by_family Symbol b rest _ family (cc (scanned-gives (symbol_kind b) rest inner)))

  pub symbol_by : (guards : Bool) {kind : TokenKind} → Symbol ≡ family_of b → kind ≡ symbol_kind b
      → IsFirstBy guards text record { kind = kind; len = 1 }
  symbol_by guards family same =
      first_by guards text _ (symbol_first family same) (rw same (symbol-kept b))

-- The byte after an identifier decides that it is an identifier.
pub ident_or_unknown_prefix_ends : (tail rest bytes : List ℕ) → IsUtf8 tail → IsUtf8 rest
    → rest ≡ past (run_len is_id_continue (chars tail)) tail → bytes ≡ rest → not (next_is turns_word bytes) ≡ true
    → (Ident, rest) ≡ scanned ident_or_unknown_prefix tail
ident_or_unknown_prefix_ends tail rest bytes is whole offset read ends =
    let next = turned-emoji rest whole (rw read at (not-true _ ends)) in
    rw next.1.0 at (ident_or_unknown_prefix-valid tail rest is offset next.0)
