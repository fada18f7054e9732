-- Whitespace outside ASCII, decided by its first byte.
use Rattle.std.proofs.Common.{◌≡◌, ℕ, ◌||◌, Bool, true, false, List, [], ◌∷◌, drop, get_or, refl}
use Rattle.std.proofs.Common.{arith}
use Rattle.std.specs.{Char.{encode_utf8}, List.{prefix_len}, Str.{chars, encode_utf8_all, IsUtf8}}
use Rattle.std.proofs.lemmas.{List.{get_or_append_left}, Str.{encodes-chars, length-encode, len_utf8_bounds}}
use Rattle.rustc_lexer.specs.{model.ByteRuns.{is_space_byte}, Classes.{is_whitespace}}
use Rattle.std.proofs.lemmas.Bool.{false_from_ne_true}
use Rattle.rustc_lexer.specs.{laws.LanguageRuns.{among}, model.{Quick.{is_space_lead}, Scan.{next_is, past, run_len}}}
use Rattle.rustc_lexer.proofs.lemmas.tokens.{AsciiRuns.{Skips, left_there, run_over}, ClassParts.{space_part}}

abbrev leads : ℕ → Bool
leads b = is_space_byte b || is_space_lead b

lead_of : (c : ℕ) → is_whitespace c ≡ true → leads (get_or (encode_utf8 c) 0 0) ≡ true
unfolding encode_utf8
lead_of c e = among (λ d. leads (get_or (encode_utf8 d) 0 0))
    (0x9 ∷ 0xA ∷ 0xB ∷ 0xC ∷ 0xD ∷ 0x20 ∷ 0x85 ∷ 0x200E ∷ 0x200F ∷ 0x2028 ∷ 0x2029 ∷ []) refl c e

-- Whitespace ends before a byte that starts none.
pub space_stops_here : (text bytes : List ℕ) (end : ℕ) → IsUtf8 text → bytes ≡ text
    → end ≡ prefix_len is_space_byte bytes → (left : List ℕ) → left ≡ drop end text → next_is is_space_lead left ≡ false
    → left ≡ past (run_len is_whitespace (chars text)) text
space_stops_here text bytes end is read counted left f out =
    run_over is_space_byte is_whitespace text left at (none_next (chars left) refl)
  where
    at : Skips is_space_byte is_whitespace text left
    at = left_there is_space_byte is_whitespace space_part text bytes end is read counted left f

    none_leads : (xs : List ℕ) → next_is is_space_byte xs ≡ false → next_is is_space_lead xs ≡ false
        → leads (get_or xs 0 0) ≡ false
    none_leads [] e f = refl
    none_leads (b ∷ bs) e f = rw (e, f) refl

    none_next : (cs : List ℕ) → chars left ≡ cs → next_is is_whitespace cs ≡ false
    none_next [] e = refl
    none_next (c ∷ cs) e =
        let front : get_or left 0 0 ≡ get_or (encode_utf8 c) 0 0 =
        cc (
          encodes-chars left at.utf8,
          get_or_append_left (encode_utf8 c) (encode_utf8_all cs) 0 0
              (omega (arith, length-encode c, len_utf8_bounds c)),
        ) in
        false_from_ne_true _ (λ f. cc (lead_of c f, none_leads left at.stops out))
