-- A short character literal: an ASCII character, or a backslash and an ASCII character, and directly after it a quote.
use Rattle.std.proofs.Common.{◌≡◌, ℕ, ◌+◌, ◌-◌, ◌≤◌, ◌<◌, ◌==◌, Bool, true, false, List, [], ◌∷◌, length, drop, codes}
use Rattle.std.proofs.Common.{refl, arith, slice_index}
use Rattle.std.specs.{Int.{from_bool}, Str.{chars, IsUtf8, IsCharBoundary}}
use Rattle.std.proofs.lemmas.{Bool.{eqb-true, lt-leb}, Str.{encodes-chars, IsCharBoundary-from_drop}}
use Rattle.std.proofs.{Math.Bool.{or-true}, lemmas.Grind.{common_steps}}
use Rattle.unicode_ident.proofs.IdentLemmas.{is_xid_start-ascii}
use Rattle.rustc_lexer.specs.{Tables.{is_emoji}, model.Lifetime.{is_name_start, is_character_at}}
use Rattle.rustc_lexer.specs.model.{Quoted.{single_quoted_string}, Scan.{begins, past, scanned}}
use Rattle.rustc_lexer.specs.laws.Choice.{by_either}
use Rattle.rustc_lexer.proofs.lemmas.tokens.AsciiRuns.{chars-ascii, IsUtf8-ascii, past-ascii}
use Rattle.rustc_lexer.specs.laws.Past.{past-two}

backslash-no_name : is_name_start 92 ≡ false
unfolding is_emoji
backslash-no_name = grind (arith, common_steps, is_xid_start-ascii, lt-leb)

-- Holds if the text, after its opening quote, is a short character literal, and `left` is the text after it.
pub record ShortChar (text left : List ℕ) : Type 0 where
  pub utf8 : IsUtf8 left
  pub character : is_character_at (chars text) ≡ true
  pub read : (true, left) ≡ scanned single_quoted_string text

closed : (text left cs : List ℕ) (n : ℕ) → chars text ≡ cs → left ≡ past n text → single_quoted_string cs ≡ (true, n)
    → (true, left) ≡ scanned single_quoted_string text
closed text left cs n w4 w5 w6 = grind (arith, common_steps)

-- One character and a quote are a short character literal.
lone : (b : ℕ) (left : List ℕ) → IsUtf8 (b ∷ 39 ∷ left) → b < 128 → (b == 92) ≡ false → ShortChar (b ∷ 39 ∷ left) left
lone b left is small other =
    let inner : IsUtf8 (39 ∷ left) = IsUtf8-ascii b (39 ∷ left) is small in
    let last : IsUtf8 left = IsUtf8-ascii 39 left inner (omega arith) in
    let reads : chars (b ∷ 39 ∷ left) ≡ b ∷ 39 ∷ chars left =
    cc (chars-ascii b (39 ∷ left) is small, chars-ascii 39 left inner (omega arith)) in
    record {
      utf8 = last;
      character = rw reads refl;
      read = closed (b ∷ 39 ∷ left) left _ 2 reads
          (past-two (b ∷ 39 ∷ left) (39 ∷ left) left is (past-ascii b (39 ∷ left) is small)
          (past-ascii 39 left inner (omega arith))) (rw other refl);
    }

-- A backslash, one character and a quote are a short character literal.
escaped : (e : ℕ) (left : List ℕ) → IsUtf8 (92 ∷ e ∷ 39 ∷ left) → e < 128 → ShortChar (92 ∷ e ∷ 39 ∷ left) left
unfolding past
escaped e left is small =
    let one : IsUtf8 (e ∷ 39 ∷ left) = IsUtf8-ascii 92 (e ∷ 39 ∷ left) is (omega arith) in
    let two : IsUtf8 (39 ∷ left) = IsUtf8-ascii e (39 ∷ left) one small in
    let last : IsUtf8 left = IsUtf8-ascii 39 left two (omega arith) in
    let reads : chars (92 ∷ e ∷ 39 ∷ left) ≡ 92 ∷ e ∷ 39 ∷ chars left =
    cc (
      chars-ascii 92 (e ∷ 39 ∷ left) is (omega arith),
      chars-ascii e (39 ∷ left) one small,
      chars-ascii 39 left two (omega arith),
    ) in
    record {
      utf8 = last;
      character = rw (reads, backslash-no_name) (or-true (begins (codes "'") (e ∷ 39 ∷ chars left)));
      read = rw (reads, encodes-chars left last) refl;
    }

module _ (text bytes : List ℕ) (offset : ℕ) (is : IsUtf8 text) (same : bytes ≡ text) (some : 3 ≤ length bytes)
    (offset_is : offset ≡ 1 + from_bool (slice_index bytes 0 == 92)) (small : slice_index bytes (offset - 1) < 128)
    (quote : slice_index bytes offset ≡ 39) where
  pub short_char : ShortChar text (drop (offset + 1) text)
  short_char = rw same at (by_text bytes (rw same is) some offset_is small quote)
    where
      by_text : (s : List ℕ) → IsUtf8 s → 3 ≤ length s → offset ≡ 1 + from_bool (slice_index s 0 == 92)
          → slice_index s (offset - 1) < 128 → slice_index s offset ≡ 39 → ShortChar s (drop (offset + 1) s)
      by_text [] u l p m q = absurd (omega arith)
      by_text (b ∷ []) u l p m q = absurd (omega arith)
      by_text (b ∷ c ∷ []) u l p m q = absurd (omega arith)
      by_text (b ∷ c ∷ d ∷ ds) u l p m q = by_either (b == 92)
          (λ e.
          let at : offset ≡ 2 = rw e at p in
          let slash : b ≡ 92 = eqb-true b 92 e in
          let closes : d ≡ 39 = rw at at q in
          rw (at, slash, closes) (escaped c ds (rw (slash, closes) at u) (rw at at m)))
          (λ e.
          let at : offset ≡ 1 = rw e at p in
          let closes : c ≡ 39 = rw at at q in
          rw (at, closes) (lone b (d ∷ ds) (rw closes at u) (rw at at m) e))

  pub short_cut : offset + 1 ≤ length text → IsCharBoundary text (offset + 1)
  short_cut le = IsCharBoundary-from_drop text (offset + 1) le short_char.utf8

pub byte_le : (b : Bool) → from_bool b ≤ 1
byte_le b = grind (arith, common_steps)
