-- A search in bytes finds the end of a run, if only ASCII characters stop the class.
use Rattle.std.proofs.Common.{◌≡◌, ℕ, ◌+◌, ◌<◌, ◌≤◌, ◌==◌, ◌||◌, ◌&&◌, not, cond, Bool, true, false, List}
use Rattle.std.proofs.Common.{[], ◌∷◌, ◌++◌, append-nil, length, drop, get_or, refl, sym, ap, ◌∙◌, arith, inl, inr}
use Rattle.std.proofs.Common.{drop-drop, map, bit_or, Some, None}
use Rattle.std.specs.{Char.{encode_utf8}, List.{position_or_len, prefix_len}, Str.{chars, encode_utf8_all, IsUtf8}}
use Rattle.std.proofs.Math.ListN.{drop_of_length-le}
use Rattle.std.proofs.lemmas.Bool.{cond-true, eq-eqb, eqb-true, false_from_ne_true, or_cases, not_from_true}
use Rattle.std.proofs.lemmas.Bool.{not_from_false}
use Rattle.std.proofs.{Math.Seq.{drop-append_seam}, lemmas.List.Folds.{prefix_len-append}}
use Rattle.std.proofs.lemmas.List.Sums.{position_or_len_is, prefix_len_is}
use Rattle.std.proofs.lemmas.{Str.{encode_ascii, inside_one, encodes-chars}, Grind.{common_steps}}
use Rattle.memchr.specs.Find.{IsFirstByte, is_byte, is_byte2}
use Rattle.rustc_lexer.specs.{model.{Ends.{bit}, Scan.{begins, next_is, past, run_len}}, laws.Choice.{by_either}}
use Rattle.rustc_lexer.proofs.lemmas.tokens.AsciiRuns.{next_byte, past_run, past_run-in, past_run-out}
use Rattle.rustc_lexer.specs.laws.Past.{chars-past}
use Rattle.rustc_lexer.proofs.lemmas.tokens.Bits.{mask_in, mask_lowest}
use lib.Lanes.{chunk, mask_l, top}
use lib.Count.{count_trailing_zeros}

module _ (stops : ℕ → Bool) (small : (b : ℕ) → stops b ≡ true → b < 128) where
  abbrev pub others : ℕ → Bool
  others c = not (stops c)

  -- No byte of another character stops the search.
  char_passes : (c : ℕ) → stops c ≡ false → prefix_len others (encode_utf8 c) ≡ length (encode_utf8 c)
  char_passes c f = prefix_len_is others (encode_utf8 c) (length (encode_utf8 c)) 0 (omega arith)
      (λ k l. not_from_false _ (false_from_ne_true _ (λ e. inside k l e))) (λ l. absurd (omega arith))
    where
      inside : (k : ℕ) → k < length (encode_utf8 c) → stops (get_or (encode_utf8 c) k 0) ≡ true → ⊥
      inside k l e = cc (inside_one c [] (encode_utf8 c) k (sym (append-nil (encode_utf8 c))) l (small _ e))

  char_past : (c : ℕ) (rest : List ℕ) → stops c ≡ false
      → drop (position_or_len stops (encode_utf8 c ++ rest)) (encode_utf8 c ++ rest) ≡ drop
      (position_or_len stops rest) rest
  char_past c rest f =
      let n : position_or_len stops (encode_utf8 c ++ rest) ≡ length (encode_utf8 c) + position_or_len stops rest =
      prefix_len-append others
      (encode_utf8 c) rest ∙ cond-true _ _ _ (eq-eqb _ _ (char_passes c f)) in
      cc (
        drop-drop (position_or_len stops rest) (length (encode_utf8 c)) (encode_utf8 c ++ rest),
        drop-append_seam (encode_utf8 c) rest,
      )

  by_chars : (cs : List ℕ) → past_run others cs ≡ drop (position_or_len stops (encode_utf8_all cs)) (encode_utf8_all cs)
  by_chars [] = refl
  by_chars (c ∷ cs) = by_either (stops c)
      (λ f. past_run-out others c cs (not_from_true (stops c) f) ∙ rw (encode_ascii c (small c f), f) refl)
      (λ f. rw (char_past c (encode_utf8_all cs) f)
      (past_run-in others c cs (not_from_false (stops c) f) ∙ by_chars cs))

  pub up_to : (text : List ℕ) (n : ℕ) → IsUtf8 text → position_or_len stops text ≡ n
      → past (run_len others (chars text)) text ≡ drop n text
  unfolding past
  up_to text n is at =
      rw (encodes-chars text is, at) at (by_chars (chars text))

pub byte_small : (stop b : ℕ) → stop < 128 → is_byte stop b ≡ true → b < 128
byte_small stop b l e = omega (arith, eqb-true b stop e)

-- A text starts with this byte exactly if its next byte is this byte.
pub begins-byte : (stop : ℕ) (s : List ℕ) → next_is (is_byte stop) s ≡ begins (stop ∷ []) s
begins-byte w0 w1 = grind (arith, common_steps)

pub begins_small : (stop : ℕ) (text : List ℕ) → stop < 128 → IsUtf8 text → begins (stop ∷ []) (chars text) ≡
    next_is (is_byte stop) text
begins_small stop text small is =
    rw (← begins-byte) (next_byte (is_byte stop) (λ b e. byte_small stop b small e) text is)

-- A text starts with two characters if it starts with the first, and its rest with the second.
pub begins_two : (a b : ℕ) (text tail : List ℕ) → IsUtf8 text → tail ≡ past 1 text → begins (a ∷ b ∷ []) (chars text) ≡
    (begins (a ∷ []) (chars text) && begins (b ∷ []) (chars tail))
begins_two a b text tail is at = grind (arith, common_steps, chars-past)

pub byte2_small : (one two b : ℕ) → one < 128 → two < 128 → is_byte2 one two b ≡ true → b < 128
byte2_small one two b l m e =
    elim (or_cases (b == one) (b == two) e) [
      | inl f ↦ omega (arith, eqb-true b one f)
      | inr f ↦ omega (arith, eqb-true b two f)
    ]

-- A search that finds a byte ends there, and a search that finds none ends at the end of the text.
pub found_at : (stops : ℕ → Bool) (text bytes : List ℕ) (n : ℕ) → bytes ≡ text → IsFirstByte stops bytes (Some n)
    → position_or_len stops text ≡ n
found_at stops text bytes n read h = rw (← read) (position_or_len_is stops bytes n 0 (omega arith)
    (λ k l. false_from_ne_true _ (h.0.before k (omega arith) l)) (λ l. h.1))

pub found_nowhere : (stops : ℕ → Bool) (small : (b : ℕ) → stops b ≡ true → b < 128) (text bytes : List ℕ) → IsUtf8 text
    → bytes ≡ text → IsFirstByte stops bytes None → [] ≡ past (run_len (others stops small) (chars text)) text
found_nowhere stops small text bytes is read h =
    let none : position_or_len stops bytes ≡ length bytes =
    position_or_len_is stops bytes (length bytes) 0 (omega arith)
    (λ k l. false_from_ne_true _ (h k (omega arith) l)) (λ l. absurd (omega arith)) in
    sym (up_to stops small text (length bytes) is (cc) ∙ drop_of_length-le text (omega (arith, ap length read)))

-- ---- reading the first n bytes

pub in_first : (stops : ℕ → Bool) (bytes : List ℕ) (n found : ℕ) → n ≤ 64 → n ≤ length bytes
    → found ≡ mask_l (map stops (chunk 0 n bytes)) → 0 < found
    → IsFirstByte stops bytes (Some (count_trailing_zeros 64 found))
in_first stops bytes n found few le mask some =
    let room : 0 + n ≤ length bytes = omega arith in
    let low = mask_lowest stops bytes 0 n found room mask few some in
    let at : (k : ℕ) → k < n → bit found k ≡ stops (get_or bytes k 0) =
    λ k l. mask_in stops bytes 0 n found room mask k k (omega arith) l in (
      record {
        low = omega arith;
        high = omega arith;
        before = λ k from to e. cc (at k (omega arith), low.1.least k to);
      },
      cc (at _ low.0, low.1.set),
    )

-- A lane is set if one of two tests passes.
pub either_set : (a b : Bool) → top 7 (bit_or (cond a 255 0) (cond b 255 0)) ≡ (a || b)
either_set w0 w1 = grind (arith, common_steps)
