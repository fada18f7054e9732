-- Escaped text: decoding it returns the text, it contains no tag, and how it is written.
use Rattle.std.proofs.Common.{◌≡◌, ℕ, zero, suc, ◌+◌, ◌<◌, ◌≤◌, true, false, List, [], ◌∷◌, ◌++◌, length, take, drop}
use Rattle.std.proofs.Common.{drop-cons, get_or, refl, ap, ◌∙◌, arith, append_assoc, Some, None}
use Rattle.std.specs.Str.{IsUtf8}
use Rattle.std.proofs.lemmas.Str.{lead_after_ascii}
use Rattle.std.specs.Fmt.{WritesInCalls}
use Rattle.std.proofs.lemmas.{Bool.{eqb-true, false_from_ne_true}, List.{append-nil, drop_all, take_all}}
use Rattle.std.proofs.lemmas.Grind.{common_steps}
use Rattle.memchr.specs.Find.{IsFirstByte}
use Rattle.rustc_lexer_highlight.specs.Escape.{entity, escaped, escaped_byte, is_special, unescaped_past, untagged_from}
use Rattle.rustc_lexer_highlight.proofs.CallLemmas.{one_call, writes_both}

unescaped_byte : (b : ℕ) (rest : List ℕ) → unescaped_past 0 (escaped_byte b ++ rest) ≡ b ∷ unescaped_past 0 rest
unescaped_byte b rest = grind (arith, common_steps, eqb-true)

pub unescaped_escaped : (text : List ℕ) → unescaped_past 0 (escaped text) ≡ text
unescaped_escaped [] = refl
unescaped_escaped (b ∷ bs) = cc (unescaped_byte b (escaped bs), unescaped_escaped bs)

untagged_byte : (b : ℕ) (rest : List ℕ) → untagged_from false (escaped_byte b ++ rest) ≡
    escaped_byte b ++ untagged_from false rest
untagged_byte b rest = grind (arith, common_steps)

-- Escaped text contains no tag.
pub untagged_escaped : (text rest : List ℕ) → untagged_from false (escaped text ++ rest) ≡
    escaped text ++ untagged_from false rest
untagged_escaped [] rest = refl
untagged_escaped (b ∷ bs) rest = grind (arith, common_steps, append_assoc, untagged_byte, untagged_escaped bs rest)

-- The bytes before the first special one are unchanged.
front_plain : (bs : List ℕ) (n : ℕ) → n ≤ length bs → ((k : ℕ) → k < n → is_special (get_or bs k 0) ≡ true → ⊥)
    → escaped bs ≡ take n bs ++ escaped (drop n bs)
front_plain bs zero low none = refl
front_plain [] (suc n) low none = absurd (omega arith)
front_plain (b ∷ bs) (suc n) low none =
    let clear : is_special b ≡ false = false_from_ne_true (is_special b) (λ set. none 0 (omega arith) set) in
    rw clear (ap (λ xs. b ∷ xs) (front_plain bs n (omega arith) (λ k less set. none (suc k) (omega arith) set)))

special_small : (b : ℕ) → is_special b ≡ true → b < 128
special_small b set = grind (arith, common_steps, eqb-true)

-- The end of a special byte is a char boundary.
pub may_cut_past : (bs : List ℕ) (n : ℕ) → IsUtf8 bs → IsFirstByte is_special bs (Some n) → (n + 1 ≤ length bs)
    × (n + 1 < length bs → 128 ≤ get_or bs (n + 1) 0 → 192 ≤ get_or bs (n + 1) 0)
may_cut_past bs n utf8 found =
    (omega (arith, found.0.high), λ low wide. lead_after_ascii bs n utf8 (special_small _ found.1) low wide)

module _ {W : Type 0} (took : W → List ℕ → W → Type 0) where
  -- Writing the text before the first special byte, its entity, and then the escaped rest writes the escaped text.
  pub writes_special : (w0 w1 w2 w : W) (bs front name rest : List ℕ) (n : ℕ) → IsFirstByte is_special bs (Some n)
      → front ≡ take n bs → name ≡ entity (get_or bs n 0) → rest ≡ drop (n + 1) bs
      → took w0 front w1 → took w1 name w2 → WritesInCalls took w2 (escaped rest) w
      → WritesInCalls took w0 (escaped bs) w
  writes_special w0 w1 w2 w bs front name rest n found own is past a b more =
      let high = found.0.high in
      let one_more : n + 1 ≡ suc n = omega arith in
      let cut : drop n bs ≡ get_or bs n 0 ∷ rest =
      cc (drop-cons bs n 0 high) in
      let plain = front_plain bs n (omega arith) (λ k less set. found.0.before k (omega arith) less set) in
      let whole : escaped bs ≡ front ++ (name ++ escaped rest) = plain ∙ rw (own, cut, found.1, is) refl in
      rw whole (writes_both took w0 w1 w _ _ (one_call took w0 w1 front a)
      (writes_both took w1 w2 w _ _ (one_call took w1 w2 name b) more))

  -- A text without special bytes is unchanged.
  pub writes_plain : (w v : W) (bs : List ℕ) → IsFirstByte is_special bs None → took w bs v
      → WritesInCalls took w (escaped bs) v
  writes_plain w v bs none call =
      let plain = front_plain bs (length bs) (omega arith) (λ k less set. none k (omega arith) less set) in
      let same : escaped bs ≡ bs =
      plain ∙ rw (take_all (length bs) bs (omega arith), drop_all (length bs) bs (omega arith), append-nil bs)
      refl in
      rw same (one_call took w v bs call)
