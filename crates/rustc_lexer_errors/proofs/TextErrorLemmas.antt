-- Bare carriage returns, and ranges of a text whose offsets can be after its end.
use Rattle.std.proofs.Common.{◌≡◌, ℕ, zero, suc, ◌+◌, ◌-◌, ◌<◌, ◌||◌, true, false, List, [], ◌∷◌, drop, take, length}
use Rattle.std.proofs.Common.{get_or, min, ap, refl, arith, ◌∙◌, Some, None}
use Rattle.std.specs.{List.{between, list_any}, Str.{IsAscii, chars}}
use Rattle.std.proofs.lemmas.{Bool.{false_from_ne_true, Decides.{nat_tests}}, Grind.{common_steps}}
use Rattle.std.proofs.lemmas.List.{drop_min, length-take, take_min, Elements.{All-from_get_or}, Folds.{list_any_none}}
use Rattle.std.proofs.lemmas.{Slice.{between_is}, Str.{chars-IsAscii}}
use Rattle.memchr.specs.Find.{IsFirstByte, is_byte}
use Rattle.rustc_lexer.specs.Classes.{Fits}
use Rattle.rustc_lexer_errors.specs.TextError.{goes_on, has_bare_return, turns_direction}

pub rest_fits : (rest next : List ℕ) (at : ℕ) → Fits rest → next ≡ take (length rest - (at + 1)) (drop (at + 1) rest)
    → Fits next
rest_fits rest next at fits is =
    let long = length-take (length rest - (at + 1)) (drop (at + 1) rest) in
    let same : length next ≡ length (take (length rest - (at + 1)) (drop (at + 1) rest)) = ap length is in
    omega (arith, fits)

-- Whether a text contains a bare carriage return, by the text after the first carriage return.
past_return : (rest : List ℕ) (at : ℕ) → IsFirstByte (is_byte 13) rest (Some at)
    → has_bare_return rest ≡ (goes_on (drop (suc at) rest) || has_bare_return (drop (suc at) rest))
past_return [] at found = absurd (omega (arith, found.0.high))
past_return (b ∷ bs) zero found = let here : is_byte 13 b ≡ true = found.1 in rw here refl
past_return (b ∷ bs) (suc at) found =
    let high = found.0.high in
    let other : is_byte 13 b ≡ false =
    false_from_ne_true (is_byte 13 b) (found.0.before 0 (omega arith) (omega arith)) in
    rw other (past_return bs at (
      record {
        low = omega arith;
        high = omega arith;
        before = λ k low less. found.0.before (suc k) (omega arith)
            (omega arith);
      },
      found.1,
    ))

pub after_return : (rest next : List ℕ) (at : ℕ) → IsFirstByte (is_byte 13) rest (Some at)
    → next ≡ take (length rest - (at + 1)) (drop (at + 1) rest)
    → has_bare_return rest ≡ (goes_on next || has_bare_return next)
after_return rest next at found is =
    let high = found.0.high in
    let one : at + 1 ≡ suc at = omega arith in
    let whole : take (length rest - (at + 1)) (drop (at + 1) rest) ≡ drop (suc at) rest =
    rw one (grind (arith, common_steps)) in
    rw (is, whole) (past_return rest at found)

pub no_return : (rest : List ℕ) → IsFirstByte (is_byte 13) rest None → has_bare_return rest ≡ false
no_return [] none = refl
no_return (b ∷ bs) none =
    let other : is_byte 13 b ≡ false = false_from_ne_true (is_byte 13 b) (none 0 (omega arith) (omega arith)) in
    rw other (no_return bs (λ k low less. none (suc k) (omega arith) (omega arith)))

pub digits_here : (n : ℕ) (text : List ℕ) → between (min (min n (length text)) 2) (min n (length text)) text ≡
    between 2 n text
digits_here n text =
    let end : ℕ = min n (length text) in
    let long = length-take n text in
    let same : min end 2 ≡ min 2 (length (take n text)) = omega (arith, long) in
    cc (between_is text (min end 2) end, take_min n text, drop_min 2 (take n text), between_is text 2 n)

pub suffix_here : (n : ℕ) (text : List ℕ) → take (length text - min n (length text)) (drop (min n (length text)) text) ≡
    drop n text
suffix_here n text =
    let whole : take (length text - min n (length text)) (drop (min n (length text)) text) ≡
    drop (min n (length text)) text = grind (arith, common_steps) in
    whole ∙ drop_min n text

small_stays : (c : ℕ) → c < 128 → turns_direction c ≡ false
small_stays c small = grind (arith, common_steps, nat_tests)

-- No ASCII character is a bidirectional control character.
pub ascii_stays : (text : List ℕ) → IsAscii text → list_any turns_direction (chars text) ≡ false
ascii_stays text ascii =
    ap (list_any turns_direction) (chars-IsAscii text ascii)
    ∙ list_any_none turns_direction text
    (All-from_get_or (λ c. turns_direction c ≡ false) text 0 (λ i low. small_stays (get_or text i 0) (ascii i)))
