-- Runs of characters that start with ASCII, in bytes.
use Rattle.std.proofs.Common.{◌≡◌, ℕ, suc, ◌<◌, ◌≤◌, Bool, true, false, List, [], ◌∷◌, ◌++◌, length, drop}
use Rattle.std.proofs.Common.{nat_lt, refl, sym, ◌∙◌, arith}
use Rattle.std.specs.{Char.{encode_utf8}, List.{prefix_len}, Str.{chars, encode_utf8_all, IsUtf8, IsCharBoundary}}
use Rattle.std.proofs.lemmas.Bool.{ltb-false, ltb-true}
use Rattle.std.proofs.lemmas.Str.{chars-nil, chars_past_char, encodes-chars, IsUtf8-past_char, byte_from_char}
use Rattle.std.proofs.lemmas.Str.{encode_ascii, IsCharBoundary-from_drop}
use Rattle.std.proofs.lemmas.{List.Sums.{prefix_len-le-length}, Grind.{common_steps}}
use Rattle.rustc_lexer.specs.{model.{ByteRuns.{is_wide}, Scan.{past, next_is, run_len}}, laws.Choice.{by_either}}
use Rattle.rustc_lexer.specs.laws.Past.{past-one}
use Rattle.rustc_lexer.proofs.lemmas.tokens.Runs.{run_ends}

-- A text that starts with an ASCII byte.
module _ (b : ℕ) (bs : List ℕ) (is : IsUtf8 (b ∷ bs)) (small : b < 128) where
  reads : b ∷ bs ≡ encode_utf8 b ++ bs
  reads = rw (encode_ascii b small) refl

  pub chars-ascii : chars (b ∷ bs) ≡ b ∷ chars bs
  chars-ascii = chars_past_char (b ∷ bs) bs b is reads

  pub IsUtf8-ascii : IsUtf8 bs
  IsUtf8-ascii = IsUtf8-past_char (b ∷ bs) bs b is reads

  pub past-ascii : bs ≡ past 1 (b ∷ bs)
  past-ascii = sym (past-one (b ∷ bs) bs b is reads)

-- Holds if q is the ASCII part of the class p.
pub record IsPart (q p : ℕ → Bool) : Type 0 where
  pub small : (b : ℕ) → q b ≡ true → b < 128
  pub same : (b : ℕ) → b < 128 → q b ≡ p b

-- Returns the text after the run of a class.
abbrev pub past_run : (ℕ → Bool) → List ℕ → List ℕ
past_run p cs = encode_utf8_all (drop (run_len p cs) cs)

pub past_run-in : (p : ℕ → Bool) (c : ℕ) (cs : List ℕ) → p c ≡ true → past_run p (c ∷ cs) ≡ past_run p cs
past_run-in p c cs e = rw e refl

pub past_run-out : (p : ℕ → Bool) (c : ℕ) (cs : List ℕ) → p c ≡ false → past_run p (c ∷ cs) ≡ encode_utf8_all (c ∷ cs)
past_run-out p c cs e = rw e refl

-- Holds if `left` has the same text after its run of the class as the whole text, and does not start with a byte of q.
pub record Skips (q p : ℕ → Bool) (text left : List ℕ) : Type 0 where
  pub utf8 : IsUtf8 left
  pub run : past_run p (chars text) ≡ past_run p (chars left)
  pub stops : next_is q left ≡ false

pub skips : (q p : ℕ → Bool) → IsPart q p → (text : List ℕ) → IsUtf8 text
    → Skips q p text (drop (prefix_len q text) text)
skips q p part [] is = record { utf8 = is; run = refl; stops = refl }
skips q p part (b ∷ bs) is = by_either (q b)
    (λ e.
    let small = part.small b e in
    let rest = skips q p part bs (IsUtf8-ascii b bs is small) in
    let more : prefix_len q (b ∷ bs) ≡ suc (prefix_len q bs) = rw e (omega arith) in
    let in_class : p b ≡ true = cc (part.same b small) in
    rw more record {
      utf8 = rest.utf8;
      run = rw (chars-ascii b bs is small, past_run-in p b (chars bs) in_class) rest.run;
      stops = rest.stops;
    })
    (λ e. rw e record { utf8 = is; run = refl; stops = e })

-- The run ends if the next character is not in the class.
pub run_over : (q p : ℕ → Bool) (text left : List ℕ) → Skips q p text left → next_is p (chars left) ≡ false
    → left ≡ past (run_len p (chars text)) text
unfolding past
run_over q p text left at out = cc (at.run, run_ends p left at.utf8 out)

-- The next byte is neither in the class nor outside ASCII.
none_next : (q p : ℕ → Bool) → IsPart q p → (left : List ℕ) → IsUtf8 left → next_is q left ≡ false
    → next_is is_wide left ≡ false
    → next_is p (chars left) ≡ false
none_next q p part w3 is stops narrow = grind (arith, common_steps, chars-nil, ltb-true, chars-ascii)

-- The text can be cut after the bytes of the class in front, and the run of the class continues there.
module _ (q p : ℕ → Bool) (part : IsPart q p) (text bytes : List ℕ) (end : ℕ) (is : IsUtf8 text) (read : bytes ≡ text)
    (counted : end ≡ prefix_len q bytes) where
  e : end ≡ prefix_len q text
  e = cc

  there : Skips q p text (drop end text)
  there = rw e (skips q p part text is)

  pub may_cut : IsCharBoundary text end
  unfolding there e
  may_cut = IsCharBoundary-from_drop text end (omega (arith, e, prefix_len-le-length q text)) there.utf8

  module _ (left : List ℕ) (f : left ≡ drop end text) where
    pub left_there : Skips q p text left
    unfolding there e
    left_there = rw f there

    pub goes_on : (rest : List ℕ) → rest ≡ past (run_len p (chars left)) left
        → rest ≡ past (run_len p (chars text)) text
    unfolding past there e
    goes_on rest g = cc (g, f, there.run)

    pub stops_here : next_is is_wide left ≡ false → left ≡ past (run_len p (chars text)) text
    stops_here narrow =
        run_over q p text left left_there (none_next q p part left left_there.utf8 left_there.stops narrow)

-- For a class within ASCII, the characters are the bytes.
module _ (p : ℕ → Bool) (small : (c : ℕ) → p c ≡ true → c < 128) where
  pub next_byte : (text : List ℕ) → IsUtf8 text → next_is p (chars text) ≡ next_is p text
  next_byte [] is = rw chars-nil refl
  next_byte (d ∷ ds) is = by_either (nat_lt d 128)
      (λ e. rw (chars-ascii d ds is (ltb-true d 128 e)) refl)
      (λ e. let wide = ltb-false d 128 e in none wide (next_is p (chars (d ∷ ds))) refl ∙ sym (by_either (p d)
      (λ e. absurd (let in_ascii = small d e in omega arith))
      (λ e. e)))
    where
      first_byte : (cs : List ℕ) → chars (d ∷ ds) ≡ cs → next_is p cs ≡ true → d < 128
      first_byte [] e f = absurd (cc)
      first_byte (c ∷ cs) e f =
          let in_ascii : c < 128 = small c f in
          let same : d ≡ c =
          byte_from_char (d ∷ ds) (encode_utf8_all cs) c (cc (encodes-chars (d ∷ ds) is)) in_ascii in
          omega arith

      none : 128 ≤ d → (t : Bool) → next_is p (chars (d ∷ ds)) ≡ t → next_is p (chars (d ∷ ds)) ≡ false
      none wide false e = e
      none wide true e = absurd (let in_ascii = first_byte (chars (d ∷ ds)) refl e in omega arith)

  -- A byte of the class in front is a character.
  pub front_small : (text : List ℕ) → IsUtf8 text → next_is p text ≡ true → IsCharBoundary text 1
      × (drop 1 text ≡ past 1 text) × (length (drop 1 text) < length text)
  front_small [] is e = absurd (cc)
  front_small (d ∷ ds) is e =
      let in_ascii = small d e in (
        IsCharBoundary-from_drop (d ∷ ds) 1 (omega arith) (IsUtf8-ascii d ds is in_ascii),
        past-ascii d ds is in_ascii,
        omega arith,
      )

  -- The run ends where its bytes end.
  whole_part : IsPart p p
  whole_part = record { small = small; same = λ b less. refl }

  pub may_cut_small : (text bytes : List ℕ) (end : ℕ) → IsUtf8 text → bytes ≡ text → end ≡ prefix_len p bytes
      → IsCharBoundary text end
  may_cut_small text bytes end is read counted = may_cut p p whole_part text bytes end is read counted

  pub past_small : (text bytes : List ℕ) (end : ℕ) → IsUtf8 text → bytes ≡ text → end ≡ prefix_len p bytes
      → (left : List ℕ) → left ≡ drop end text → left ≡ past (run_len p (chars text)) text
  past_small text bytes end is read counted left f =
      let at = left_there p p whole_part text bytes end is read counted left f in
      run_over p p text left at (next_byte left at.utf8 ∙ at.stops)
