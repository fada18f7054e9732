-- The two runs of an identifier: the characters that can continue it, and then all characters of a word after an emoji.
use Rattle.std.proofs.Common.{◌≡◌, ℕ, ◌+◌, ◌==◌, not, Bool, true, false, if◌then◌else◌, List, [], ◌∷◌, length}
use Rattle.std.proofs.Common.{take, drop, refl, arith, zero-add, codes, ltb, lt-ltb}
use Rattle.std.specs.{List.{list_all}, Str.{chars, encode_utf8_all, IsUtf8}}
use Rattle.std.proofs.lemmas.{Bool.Decides.{nat_tests}, Grind.{common_steps}, Str.{length-le-encodes}}
use Rattle.rustc_lexer.specs.{Ident, UnknownPrefix}
use Rattle.rustc_lexer.specs.{Classes.{is_id_start, is_id_continue, ends_prefix, is_word_continue}, Tables.{is_emoji}}
use Rattle.rustc_lexer.specs.model.Ident.{ident_or_unknown_prefix, invalid_ident, begins_hash_ident}
use Rattle.rustc_lexer.specs.model.Scan.{begins, next_is, past, run_len, scanned}
use Rattle.rustc_lexer.specs.laws.Choice.{by_either}
use Rattle.rustc_lexer.specs.laws.Past.{chars-past, past-past, past-two}

abbrev pub len : List ℕ → ℕ
len cs = run_len is_id_continue cs

abbrev pub has_emoji : List ℕ → Bool
has_emoji cs = next_is is_emoji (drop (len cs) cs)

pub word_runs : (cs : List ℕ) → run_len is_word_continue cs ≡ len cs + run_len is_word_continue (drop (len cs) cs)
word_runs [] = refl
word_runs (c ∷ cs) = grind (arith, common_steps, zero-add, word_runs cs)

pub word_all : (cs : List ℕ) → list_all is_id_continue (take (run_len is_word_continue cs) cs) ≡ not (has_emoji cs)
word_all [] = refl
word_all (c ∷ cs) = grind (arith, common_steps, word_all cs)

-- The run of a word is longer than the run of an identifier exactly if the word contains an emoji.
pub word_more : (cs : List ℕ) → ltb 0 (run_len is_word_continue (drop (len cs) cs)) ≡ has_emoji cs
word_more [] = refl
word_more (c ∷ cs) = grind (arith, common_steps, lt-ltb, word_more cs)

word_none : (cs : List ℕ) → has_emoji cs ≡ false → run_len is_word_continue cs ≡ len cs
word_none [] h = refl
word_none (c ∷ cs) h = grind (arith, common_steps, word_none cs)

module _ (tail rest : List ℕ) (is : IsUtf8 tail) (e : rest ≡ past (len (chars tail)) tail) where
  rest_is : chars rest ≡ drop (len (chars tail)) (chars tail)
  rest_is = cc (chars-past (len (chars tail)) tail is)

  pub ident_or_unknown_prefix-invalid : next_is is_emoji (chars rest) ≡ true
      → scanned invalid_ident rest ≡ scanned ident_or_unknown_prefix tail
  ident_or_unknown_prefix-invalid h = grind (arith, common_steps, rest_is, word_all, past-past, word_runs)

  pub ident_or_unknown_prefix-valid : next_is is_emoji (chars rest) ≡ false
      → ((if next_is ends_prefix (chars rest) then UnknownPrefix else Ident), rest) ≡
      scanned ident_or_unknown_prefix tail
  ident_or_unknown_prefix-valid h = grind (arith, common_steps, rest_is, word_none, word_all)

-- A hash and the text after it.
module _ (tail word : List ℕ) (is : IsUtf8 tail) (e : word ≡ past 1 tail)
    (hash : begins (codes "#") (chars tail) ≡ true) where
  hash_ident-is : begins_hash_ident (chars tail) ≡ next_is is_id_start (chars word)
  hash_ident-is = rw (hash, e, chars-past 1 tail is) refl

  pub hash_ident-none : chars word ≡ [] → begins_hash_ident (chars tail) ≡ false
  hash_ident-none none = rw none at hash_ident-is

  pub hash_ident-by : (c : ℕ) (cs : List ℕ) (b : Bool) → chars word ≡ c ∷ cs → b ≡ is_id_start c
      → begins_hash_ident (chars tail) ≡ b
  hash_ident-by c cs b f g = rw (f, ← g) at hash_ident-is

  pub past-hash_ident : (ident left : List ℕ) → ident ≡ past 1 word
      → left ≡ past (run_len is_id_continue (chars ident)) ident
      → left ≡ past (2 + run_len is_id_continue (drop 2 (chars tail))) tail
  past-hash_ident ident left f g = grind (arith, common_steps, past-two, chars-past, past-past)

-- ---- a text of one run

-- No text is left after the run exactly if all characters are in the class.
pub all_run : (p : ℕ → Bool) (s : List ℕ) → (length (encode_utf8_all (drop (run_len p s) s)) == 0) ≡ list_all p s
all_run p [] = refl
all_run p (c ∷ s) = by_either (p c)
    (λ e. rw e (all_run p s))
    (λ e. rw e (let long = length-le-encodes (c ∷ s) in grind (arith, nat_tests)))

pub all_past : (p : ℕ → Bool) (text rest : List ℕ) → rest ≡ past (run_len p (chars text)) text
    → (length rest == 0) ≡ list_all p (chars text)
unfolding past
all_past p text rest e = rw e (all_run p (chars text))
