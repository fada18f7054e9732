-- The ends of runs in a block, which of them are known, and the tokens that they determine.
use Rattle.std.proofs.Common.{◌≡◌, ℕ, zero, suc, ◌+◌, ◌-◌, ◌/◌, nat_lt, ◌^◌, bit_and, ◌<◌, ◌≤◌, Bool, true, false}
use Rattle.std.proofs.Common.{true≢false, not, ◌&&◌, ◌||◌, List, ◌∷◌, length, drop, get_or, refl, sym, ap, subst}
use Rattle.std.proofs.Common.{◌∙◌, arith, length-drop, inl, inr, Option, Some, None, is_some}
use Rattle.std.specs.{List.{prefix_len}, Str.{IsCharBoundary, IsUtf8}}
use Rattle.std.proofs.{lemmas.Str.{IsCharBoundary-from_rest, IsUtf8-drop}, Math.Seq.{drop-cons}}
use Rattle.std.proofs.lemmas.Bool.{agree_below_at, and_parts, or_parts, cases_lt, not-true, not-false, le-ltb, lt-ltb}
use Rattle.std.proofs.lemmas.Bool.{ltb-true}
use Rattle.std.proofs.lemmas.{Nat.{and_le_r, shr_le}, List.{get_or-drop}, Option.{none-some, same_Some}}
use Rattle.std.proofs.lemmas.List.{FromFn.{get_or-map-range_with_len}, Sums.{prefix_len_is}}
use Rattle.std.proofs.{Math.Bool.{and-true, not-not}, lemmas.Grind.{common_steps}}
use Rattle.unicode_ident.proofs.Computing.{unicode_ident}
use Rattle.rustc_lexer.specs.{Edition, TokenKind, Ident, Whitespace, declared.lexemes.family.TheConstants.{CLASSIFIED}}
use Rattle.rustc_lexer.specs.declared.lexemes.family.Family.{Family, TheVariants.{Space, Word, Symbol}}
use Rattle.rustc_lexer.specs.model.Edition.{changed, first_token_in}
use Rattle.rustc_lexer.specs.model.Ends.{bit, goes_on, is_end, AreEndsPast, IsEnds, IsLowest, classified, classified_in}
use Rattle.rustc_lexer.specs.model.Ends.{StaysWithin}
use Rattle.rustc_lexer.specs.{model.ByteRuns.{is_continue_byte, is_space_byte}, Tables.{is_emoji}}
use Rattle.rustc_lexer.specs.model.{Lexeme.{family_of, symbol_kind}, Quick.{is_space_lead, turns_word, IsFirstToken}}
use Rattle.rustc_lexer.specs.model.Scan.{next_is}
use Rattle.rustc_lexer.proofs.lemmas.tokens.Editions.{is_newer, older}
use Rattle.rustc_lexer.proofs.lemmas.tokens.Bits.{bit-and, bit-below, bit-flip, bit-zero, flip, within}
use Rattle.rustc_lexer.proofs.lemmas.tokens.Quick.{word_first, space_first, symbol_first}

pub no_ends : (text : List ℕ) → IsEnds text 0
no_ends text j set = absurd (true≢false (sym set ∙ bit-zero j))

-- The ends of runs among the first n bytes; `a` marks the bytes outside words, and `b` the bytes that are not
-- whitespace.
module _ (text : List ℕ) (n a b edges : ℕ) (few : n ≤ 64) (inside : n ≤ length text) (small : a < 2 ^ 64)
    (small_too : b < 2 ^ 64)
    (of_words : (k : ℕ) → k < n → bit a k ≡ not (is_continue_byte (get_or text k 0))) (of_spaces : (k : ℕ) → k < n
    → bit b k ≡ not (is_space_byte (get_or text k 0)))
    (first : bit edges 0 ≡ false) (later : (k : ℕ) → suc k < 64
    → bit edges (suc k) ≡
    not ((bit (flip a) k && bit (flip a) (suc k)) || (bit (flip b) k && bit (flip b) (suc k)))) where
  is_at : (k : ℕ) → k < n → bit edges k ≡ is_end text k
  is_at k w1 = grind (arith, common_steps, bit-flip, not-not)

  abbrev kept : ℕ
  kept = bit_and edges ((2 ^ 64 - 1) / 2 ^ (64 - n))

  bit-kept : (k : ℕ) → k < 64 → bit kept k ≡ (bit edges k && nat_lt k n)
  bit-kept k l = rw (bit-and, bit-below n k few l) refl

  pub are_ends : IsEnds text kept
  are_ends j set =
      let near : j < 64 =
      within kept j (omega (arith, and_le_r edges ((2 ^ 64 - 1) / 2 ^ (64 - n)), shr_le (2 ^ 64 - 1) (64 - n)))
      set in
      let less : j < n = ltb-true j n (and_parts (bit edges j) (nat_lt j n) (sym (bit-kept j near) ∙ set)).1 in (
        omega arith,
        λ k le. rw (bit-kept k (omega arith), lt-ltb k n (omega arith), and-true) (is_at k (omega arith)),
      )

-- ---- the known ends after an offset

pub past_end : (text : List ℕ) (m from low less : ℕ) → AreEndsPast text from m → IsLowest m low
    → ((k : ℕ) → k ≤ low → bit less k ≡ false) → ((k : ℕ) → low < k → bit less k ≡ bit m k) → AreEndsPast text low less
past_end text m from low less are lowest gone others j set = grind (arith, common_steps, cases_lt)

-- ---- the end of a run

-- Holds if the first n bytes after b continue the run of b, and the next byte does not.
record RunsTo (b : ℕ) (rest : List ℕ) (n : ℕ) : Type 0 where
  room : n < length rest
  on : (k : ℕ) → k < n → goes_on (get_or (b ∷ rest) k 0) (get_or rest k 0) ≡ true
  end : goes_on (get_or (b ∷ rest) n 0) (get_or rest n 0) ≡ false

-- The lowest end after an offset, from the known ends of a block that starts at or before it.
module _ (text : List ℕ) (at block ends low n : ℕ) (behind : block ≤ at)
    (known : AreEndsPast (drop block text) (at - block) ends)
    (lowest : IsLowest ends low) (e : at + suc n ≡ block + low) where
  byte-is : (i k : ℕ) → block + i ≡ at + k → get_or (drop block text) i 0 ≡
      get_or (get_or text at 0 ∷ drop (suc at) text) k 0
  byte-is i zero f = grind (arith, common_steps)
  byte-is i (suc k) f = let g : block + i ≡ suc at + k = omega arith in
      rw (get_or-drop block text i 0, get_or-drop, g) refl

  edge-is : (k : ℕ) → k ≤ n → bit ends (suc (at - block + k)) ≡
      not (goes_on (get_or (get_or text at 0 ∷ drop (suc at) text) k 0)
      (get_or (drop (suc at) text) k 0))
  edge-is k le = (known low lowest.set).2 (suc (at - block + k)) (omega arith) (omega arith)
      ∙ rw (byte-is (at - block + k) k (omega arith), byte-is (suc (at - block + k)) (suc k) (omega arith)) refl

  runs_to : RunsTo (get_or text at 0) (drop (suc at) text) n
  runs_to = record {
    room = omega (arith, (known low lowest.set).1, length-drop block text, length-drop (suc at) text);
    on = λ k l. not-false _ (sym (edge-is k (omega arith)) ∙ lowest.least _ (omega arith));
    end = let f : suc (at - block + n) ≡ low = omega arith in not-true _ (cc (edge-is n (omega arith), lowest.set));
  }

-- A run is the run of a class, if the bytes that continue it are exactly the bytes of the class.
module _ (p : ℕ → Bool) (goes : (a b : ℕ) → p a ≡ true → goes_on a b ≡ p b) {b : ℕ} {rest : List ℕ} {n : ℕ}
    (run : RunsTo b rest n) (first : p b ≡ true) where
  in_run : (k : ℕ) → k ≤ n → p (get_or (b ∷ rest) k 0) ≡ true
  in_run zero l = first
  in_run (suc k) l = sym (goes _ _ (in_run k (omega arith))) ∙ run.on k (omega arith)

  run_is : n ≡ prefix_len p rest
  run_is = sym (prefix_len_is p rest n 0 (omega (arith, run.room)) (λ k l. in_run (suc k) (omega arith))
      (λ l. sym (goes _ _ (in_run n (omega arith))) ∙ run.end))

never_both : (b : ℕ) → (is_continue_byte b && is_space_byte b) ≡ false
never_both b = elim (cases_lt b 128) [
  | inl small ↦ agree_below_at (λ x. is_continue_byte x && is_space_byte x)
      (λ _. false) 128 b refl small
  | inr wide ↦ rw (le-ltb b 128 wide) refl
]

first_of_two : (c s d t : Bool) → (c && s) ≡ false → c ≡ true → ((c && d) || (s && t)) ≡ d
first_of_two w0 w1 w2 w3 w4 w5 = grind (arith, common_steps)

second_of_two : (c s d t : Bool) → (c && s) ≡ false → s ≡ true → ((c && d) || (s && t)) ≡ t
second_of_two w0 w1 w2 w3 w4 w5 = grind (arith, common_steps)

-- ---- the first byte decides the run

pub classified_table : (b : ℕ) (none : Option TokenKind) → b < 256 → get_or CLASSIFIED.now b none ≡ classified b
unfolding is_emoji unicode_ident
classified_table b none small = get_or-map-range_with_len classified 0 256 b b none small (omega arith)

pub symbol_classified : (b : ℕ) (none : Option TokenKind) → b < 128 → family_of b ≡ Symbol
    → get_or CLASSIFIED.now b none ≡ Some (symbol_kind b)
symbol_classified b none small family = classified_table b none (omega arith) ∙ rw (lt-ltb b 128 small, family) refl

holds : (a b : Bool) → (not a || b) ≡ true → a ≡ true → b ≡ true
holds a b e f = rw f at e

-- Whether the byte is in the class of runs that a byte of this family starts.
abbrev in_run_of : Family → ℕ → Bool
in_run_of Word b = is_continue_byte b
in_run_of Space b = is_space_byte b
in_run_of Symbol b = not (is_continue_byte b || is_space_byte b)
in_run_of other b = true

run_of_family : (b : ℕ) (f : Family) → b < 128 → f ≡ family_of b → in_run_of f b ≡ true
unfolding is_emoji unicode_ident
run_of_family b f l e = rw e (agree_below_at (λ x. in_run_of (family_of x) x) (λ _. true) 128 b refl l)

classified_small : (b : ℕ) → is_some (classified b) ≡ true → b < 128
classified_small b some = elim (cases_lt b 128) [
  | inl small ↦ small
  | inr wide ↦ let none : is_some (classified b) ≡ false = rw (le-ltb b 128 wide) refl in
      absurd (true≢false (sym some ∙ none))
]

-- ---- a token, from its run and the byte after it

module _ {text : List ℕ} (is : IsUtf8 text) {b : ℕ} {rest : List ℕ} (e : text ≡ b ∷ rest) {n : ℕ}
    (run : RunsTo b rest n) (small : b < 128) where
  stops : (p : ℕ → Bool) → p (get_or rest n 0) ≡ false → not (next_is p (drop n rest)) ≡ true
  stops p none = rw (drop-cons rest n 0 run.room, none) refl

  as_word : Word ≡ family_of b → turns_word (get_or rest n 0) ≡ false
      → IsFirstToken text record { kind = Ident; len = 1 + n }
  as_word family stays =
      word_first is e small family (run_is is_continue_byte (λ x y. first_of_two _ _ _ _ (never_both x)) run
      (run_of_family b Word small family)) (stops turns_word stays)

  as_space : Space ≡ family_of b → is_space_lead (get_or rest n 0) ≡ false
      → IsFirstToken text record { kind = Whitespace; len = 1 + n }
  as_space family stays =
      space_first is e small family (run_is is_space_byte (λ x y. second_of_two _ _ _ _ (never_both x)) run
      (run_of_family b Space small family)) (stops is_space_lead stays)

  as_symbol : Symbol ≡ family_of b → IsFirstToken text record { kind = symbol_kind b; len = 1 + n }
  as_symbol family = rw (← alone n refl) (symbol_first is e small family refl)
    where
      alone : (m : ℕ) → n ≡ m → 0 ≡ n
      alone zero f = sym f
      alone (suc m) f = grind (arith, common_steps, run.on 0, run_of_family b Symbol small family, or_parts, not-true)

  by_family : (kind : TokenKind) → StaysWithin kind (get_or rest n 0) → (f : Family) → f ≡ family_of b
      → Some kind ≡ classified_in f b
      → IsFirstToken text record { kind = kind; len = 1 + n }
  by_family kind stays Word family is =
      let k = same_Some kind Ident is in rw k (as_word family (stays.word k))
  by_family kind stays Space family is =
      let k = same_Some kind Whitespace is in rw k (as_space family (stays.space k))
  by_family kind stays Symbol family is = rw (same_Some kind (symbol_kind b) is) (as_symbol family)
  by_family kind stays f family is = absurd (none-some kind (sym is))

  as_classified : (kind : TokenKind) → classified b ≡ Some kind → StaysWithin kind (get_or rest n 0)
      → IsFirstToken text record { kind = kind; len = 1 + n }
  as_classified kind some stays = by_family kind stays (family_of b) refl (sym some ∙ rw (lt-ltb b 128 small) refl)

-- ---- a byte that determines a token does not change the token before it

turns_none : (b : ℕ) → b < 128 → (not (is_some (classified b)) || not (turns_word b)) ≡ true
unfolding is_emoji unicode_ident
turns_none b small = agree_below_at (λ x. not (is_some (classified x)) || not (turns_word x))
    (λ _. true) 128 b refl small

pub classified_stays : (kind : TokenKind) (next : ℕ) → is_some (classified next) ≡ true → StaysWithin kind next
classified_stays kind next some = let small = classified_small next some in record {
  word = λ _. not-true _ (holds _ _ (turns_none next small) some);
  space = λ _. agree_below_at (λ x. is_space_lead x) (λ _. false) 128 next refl small;
}

-- ---- the tokens are the same in every edition

-- Whether there is a kind, and it passes the test.
abbrev said : (TokenKind → Bool) → Option TokenKind → Bool
said test None = false
said test (Some kind) = test kind

classified_older : (b : ℕ) (kind : TokenKind) → classified b ≡ Some kind → is_newer kind ≡ false
unfolding is_emoji unicode_ident
classified_older b kind some = sym (ap (said is_newer) some) ∙ agree_below_at (λ x. said is_newer (classified x))
    (λ _. false) 128 b refl
    (classified_small b (ap is_some some))

pub classified_same : (b : ℕ) (kind : TokenKind) → classified b ≡ Some kind
    → (edition : Edition) (cs : List ℕ) (len : ℕ)
    → changed edition cs record { kind = kind; len = len } ≡ record { kind = kind; len = len }
classified_same b kind some edition cs len =
    older edition cs record { kind = kind; len = len } (classified_older b kind some)

-- ---- the next token

-- Holds if the first remaining byte and the lowest end after it determine a token of this kind.
pub record TellsNext (text : List ℕ) (at block ends low : ℕ) (kind : TokenKind) : Type 0 where
  pub utf8 : IsUtf8 text
  pub bound : IsCharBoundary text at
  pub behind : block ≤ at
  pub small : ends < 2 ^ 64
  pub tells : classified (get_or text at 0) ≡ Some kind
  pub known : AreEndsPast (drop block text) (at - block) ends
  pub lowest : IsLowest ends low
  pub stays : StaysWithin kind (get_or text (block + low) 0)

module _ {text : List ℕ} {at block ends low : ℕ} {kind : TokenKind} (next : TellsNext text at block ends low kind) where
  pub classified_after : at < block + low
  classified_after = let after = (next.known low next.lowest.set).0 in omega (arith, after, next.behind)

  pub classified_inside : block + low < length text
  classified_inside = let inside = (next.known low next.lowest.set).1 in omega (arith, inside, length-drop block text)

  pub classified_token : IsFirstToken (drop at text) record { kind = kind; len = block + low - at }
  classified_token =
      let n : ℕ = block + low - at - 1 in
      let e : at + suc n ≡ block + low = omega (arith, classified_after) in
      let whole : 1 + n ≡ block + low - at = omega (arith, classified_after) in
      let sum : block + low ≡ suc at + n = omega (arith, classified_after) in
      let byte : get_or text (block + low) 0 ≡ get_or (drop (suc at) text) n 0 = cc (sum, get_or-drop (suc at) text n 0) in
      rw (← whole)
      (as_classified (IsUtf8-drop text at next.utf8 next.bound)
      (drop-cons text at 0 (omega (arith, classified_after, classified_inside)))
      (runs_to text at block ends low n next.behind next.known next.lowest e)
      (classified_small _ (ap is_some next.tells)) kind next.tells (subst (StaysWithin kind) byte next.stays))

  -- The token is the same in every edition.
  pub classified_first : (edition : Edition) → record { kind = kind; len = block + low - at } ≡
      first_token_in edition (drop at text)
  classified_first edition = grind (arith, common_steps, classified_same, classified_token)

  pub classified_bound : IsCharBoundary text (block + low)
  classified_bound =
      grind (arith, common_steps, classified_after, IsCharBoundary-from_rest, classified_inside, classified_token)

  pub classified_ahead : (less : ℕ) → ((k : ℕ) → k ≤ low → bit less k ≡ false)
      → ((k : ℕ) → low < k → bit less k ≡ bit ends k)
      → AreEndsPast (drop block text) (block + low - block) less
  classified_ahead less gone others = grind (arith, common_steps, past_end)
