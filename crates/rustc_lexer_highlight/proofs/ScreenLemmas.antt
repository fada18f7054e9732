-- The output for a terminal, and the calls that write it.
use Rattle.std.proofs.Common.{◌≡◌, ℕ, ◌+◌, ◌<◌, ◌≤◌, ◌==◌, Bool, true, false, ◌&&◌, ◌||◌, not, inl, inr, List, [], ◌∷◌}
use Rattle.std.proofs.Common.{◌++◌, length, take, drop, get_or, refl, sym, ap, ◌∙◌, arith, length-append}
use Rattle.std.proofs.{Common.{length-drop, take-append-drop, Some, None, IsCharBoundary}, lemmas.Bool.{cases_Bool}}
use Rattle.std.proofs.lemmas.{Bool.{cases_lt, false_from_ne_true, Decides.{nat_tests}}, Grind.{common_steps}}
use Rattle.std.proofs.lemmas.{List.{get_or-append-add, get_or-take, length-take}, Str.{encode_ascii, IsUtf8-take}}
use Rattle.std.proofs.lemmas.Str.{chars-append, encodes-append, encodes-chars, length-encode, len_utf8_bounds}
use Rattle.std.specs.{Char.{encode_utf8, is_control}, Fmt.{WritesInCalls}, List.{list_all, list_any}, Str.{IsUtf8}}
use Rattle.std.specs.Str.{chars, encode_utf8_all}
use Rattle.memchr.specs.Find.{IsFirstByte}
use Rattle.rustc_lexer_highlight.specs.Screen.{is_replaceable, may_begin_replaceable, seen, seen_char}
use Rattle.rustc_lexer_highlight.proofs.CallLemmas.{one_call, writes_both}

-- ---- a text without replaceable characters

irreplaceable_char : (c : ℕ) (cs : List ℕ) → is_replaceable c ≡ false → seen_char c cs ≡ c
irreplaceable_char c cs other = grind (arith, common_steps, nat_tests)

-- Such a text is unchanged.
seen-append : (cs ds : List ℕ) → list_any is_replaceable cs ≡ false
    → seen (cs ++ ds) ≡ cs ++ seen ds
seen-append [] ds none = refl
seen-append (c ∷ cs) ds none = grind (arith, common_steps, irreplaceable_char, seen-append cs ds)

seen_same : (cs : List ℕ) → list_any is_replaceable cs ≡ false → seen cs ≡ cs
seen_same [] none = refl
seen_same (c ∷ cs) none = grind (arith, common_steps, irreplaceable_char, seen_same cs)

low : (c : ℕ) → is_replaceable c ≡ true → c < 160
low c is = grind (arith, common_steps, nat_tests)

wide_byte : (c : ℕ) (bs : List ℕ) → 128 ≤ c → c < 160 → get_or (encode_utf8 c ++ bs) 0 0 ≡ 194
unfolding encode_utf8
wide_byte c bs wide small = grind (arith, common_steps, nat_tests)

-- A replaceable character starts with a byte that passes the test.
first_byte : (c : ℕ) (bs : List ℕ) → is_replaceable c ≡ true
    → may_begin_replaceable (get_or (encode_utf8 c ++ bs) 0 0) ≡ true
first_byte c bs is = elim (cases_lt c 128) [
  | inl ascii ↦ rw (encode_ascii c ascii) (grind (arith, common_steps, nat_tests))
  | inr wide ↦ let small = low c is in grind (arith, common_steps, nat_tests, wide_byte)
]

irreplaceable : (cs : List ℕ)
    → ((k : ℕ) → k < length (encode_utf8_all cs) → may_begin_replaceable (get_or (encode_utf8_all cs) k 0) ≡ true → ⊥)
    → list_any is_replaceable cs ≡ false
irreplaceable [] none = refl
irreplaceable (c ∷ cs) none =
    let long = len_utf8_bounds c in
    let own = length-encode c in
    let all = length-append (encode_utf8 c) (encode_utf8_all cs) in
    let clear : is_replaceable c ≡ false =
    false_from_ne_true (is_replaceable c) (λ is. none 0 (omega arith) (first_byte c (encode_utf8_all cs) is)) in
    rw clear (irreplaceable cs
    (λ k less set. none (length (encode_utf8 c) + k) (omega arith)
    (rw (get_or-append-add (encode_utf8 c) (encode_utf8_all cs) k 0) set)))

irreplaceable_text : (bs : List ℕ) → IsUtf8 bs
    → ((k : ℕ) → k < length bs → may_begin_replaceable (get_or bs k 0) ≡ true → ⊥)
    → list_any is_replaceable (chars bs) ≡ false
irreplaceable_text bs utf8 none = irreplaceable (chars bs) (rw (encodes-chars bs utf8) none)

-- The first byte that can start a replaceable character is at a char boundary, and no replaceable character is before
-- it.
pub may_cut : (bs : List ℕ) (n : ℕ) → IsFirstByte may_begin_replaceable bs (Some n) → IsCharBoundary bs n
may_cut bs n found = let high = found.0.high in
    (omega arith, λ low wide. grind (arith, common_steps, nat_tests, found.1))

pub front_irreplaceable : (bs : List ℕ) (n : ℕ) → IsUtf8 bs → IsFirstByte may_begin_replaceable bs (Some n)
    → list_any is_replaceable (chars (take n bs)) ≡ false
front_irreplaceable bs n utf8 found =
    let high = found.0.high in
    let long = length-take n bs in
    irreplaceable_text (take n bs) (IsUtf8-take bs n utf8 (may_cut bs n found))
    (λ k less set. found.0.before k (omega arith) (omega arith)
    (rw (get_or-take n bs k 0 (omega arith)) at set))

-- Divides a text at the first byte that can start a replaceable character: the text before it, the character, and the
-- rest.
pub splits : (text front rest past : List ℕ) (c n : ℕ) → IsUtf8 text → IsFirstByte may_begin_replaceable text (Some n)
    → front ≡ take n text → rest ≡ drop n text
    → chars rest ≡ c ∷ chars past → length past < length rest
    → (list_any is_replaceable (chars front) ≡ false) × (chars text ≡ chars front ++ (c ∷ chars past))
    × (length past < length text)
splits text front rest past c n utf8 found is_front is_rest reads less =
    let long = ap length is_rest ∙ length-drop n text in
    let cut : chars text ≡ chars (take n text) ++ chars (drop n text) =
    cc (
      take-append-drop n text,
      chars-append (take n text) (drop n text)
          (IsUtf8-take text n utf8 (may_cut text n found)),
    ) in (
      rw is_front (front_irreplaceable text n utf8 found),
      rw (is_front, ← reads, is_rest) cut,
      omega arith,
    )

pub some_left : (text rest : List ℕ) (n : ℕ) → IsUtf8 rest → IsFirstByte may_begin_replaceable text (Some n)
    → rest ≡ drop n text → chars rest ≡ [] → ⊥
some_left text rest n utf8 found is none =
    let empty : [] ≡ rest = sym (ap encode_utf8_all none) ∙ encodes-chars rest utf8 in
    omega (arith, found.0.high, ap length is, length-drop n text, ap length empty)

pub none_replaceable : (bs text : List ℕ) → bs ≡ text → IsUtf8 text → IsFirstByte may_begin_replaceable bs None
    → list_any is_replaceable (chars text) ≡ false
none_replaceable bs text same utf8 none =
    irreplaceable_text text utf8 (λ k less set. (rw same at none) k (omega arith) less set)

module _ {W : Type 0} (took : W → List ℕ → W → Type 0) where
  -- Writing the text before a character, that character or its symbol, and then the rest writes the text, if no
  -- replaceable character is before it.
  pub writes_stretch : (w0 w1 w2 w : W) (c shown : ℕ) (bs front rest : List ℕ) → IsUtf8 front
      → list_any is_replaceable (chars front) ≡ false
      → chars bs ≡ chars front ++ (c ∷ chars rest) → shown ≡ seen_char c (chars rest)
      → took w0 front w1 → took w1 (encode_utf8 shown) w2
      → WritesInCalls took w2 (encode_utf8_all (seen (chars rest))) w
      → WritesInCalls took w0 (encode_utf8_all (seen (chars bs))) w
  writes_stretch w0 w1 w2 w c shown bs front rest utf8 none reads is a b more =
      let split : encode_utf8_all (seen (chars bs)) ≡
      front ++ (encode_utf8 shown ++ encode_utf8_all (seen (chars rest))) =
      ap (λ (cs : List ℕ). encode_utf8_all (seen cs)) reads
      ∙ ap encode_utf8_all (seen-append (chars front) (c ∷ chars rest) none)
      ∙ encodes-append (chars front) (seen (c ∷ chars rest))
      ∙ rw (encodes-chars front utf8, is) refl in
      rw split (writes_both took w0 w1 w _ _ (one_call took w0 w1 front a)
      (writes_both took w1 w2 w _ _ (one_call took w1 w2 _ b) more))

  pub writes_irreplaceable : (w v : W) (bs : List ℕ) → IsUtf8 bs → list_any is_replaceable (chars bs) ≡
      false → took w bs v → WritesInCalls took w (encode_utf8_all (seen (chars bs))) v
  writes_irreplaceable w v bs utf8 none call =
      let same : encode_utf8_all (seen (chars bs)) ≡ bs = ap encode_utf8_all (seen_same (chars bs) none)
      ∙ encodes-chars bs utf8 in
      rw same (one_call took w v bs call)
