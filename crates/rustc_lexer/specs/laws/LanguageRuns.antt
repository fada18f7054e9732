-- Runs in the language, and the family that the first character of a text selects.
use Rattle.std.proofs.Common.{◌≡◌, ℕ, suc, ◌≤◌, ◌<◌, ◌==◌, ◌&&◌, ◌||◌, inl, inr, nat_le, not, Bool, true, false}
use Rattle.std.proofs.Common.{true≢false, List, [], ◌∷◌, ◌++◌, length, take, drop, codes, refl, sym, ap, ◌∙◌, arith}
use Rattle.std.proofs.Common.{take_all}
use Rattle.std.proofs.Math.Seq.{take-append_seam, drop-append_seam}
use Rattle.std.proofs.lemmas.Bool.{agree_below_at, and_parts, eqb-true, leb-true, ne_eqb, or_cases, or_parts, or_left}
use Rattle.std.proofs.lemmas.Bool.{or_right, not-true, false_from_ne_true}
use Rattle.std.specs.{Char.{is_ascii_digit}, List.{list_all}}
use Rattle.std.proofs.lemmas.Grind.{common_steps}
use Rattle.unicode_ident.proofs.Computing.{unicode_ident}
use Rattle.rustc_lexer.specs.declared.lexemes.family.Family.{Family}
use Rattle.rustc_lexer.specs.declared.lexemes.family.Family.TheVariants.{Slash, Space, Word, Number, Quote, Str, Emoji}
use Rattle.rustc_lexer.specs.declared.lexemes.family.Family.TheVariants.{Hash, Symbol}
use Rattle.rustc_lexer.specs.{TokenKind}
use Rattle.rustc_lexer.specs.Classes.{is_among, is_whitespace, is_id_start, is_word_continue, is_word_start, AreAll}
use Rattle.rustc_lexer.specs.Classes.{NextIs, NextIsNot, ends_prefix}
use Rattle.rustc_lexer.specs.Tables.{is_emoji, emoji_ranges}
use Rattle.rustc_lexer.specs.laws.Choice.{by_test}
use Rattle.rustc_lexer.specs.laws.Reach.{IsDecidedBy, decided_same, run_len-in, run_len-out}
use Rattle.rustc_lexer.specs.Language.{has_rule, IsTokenBefore}
use Rattle.rustc_lexer.specs.model.Lexeme.{family_of, past_first, read_by, lexeme}
use Rattle.rustc_lexer.specs.model.Scan.{after, next_is, begins, run_len}

-- ---- runs

-- A run ends where the text after it stops it.
pub run_len-here : (p : ℕ → Bool) (w next : List ℕ) → AreAll p w → NextIsNot p next → run_len p (w ++ next) ≡ length w
run_len-here p [] [] all stop = refl
run_len-here p [] (c ∷ next) all stop = run_len-out p c next stop
run_len-here p (c ∷ w) next all stop =
    grind (
      arith,
      common_steps,
      and_parts,
      run_len-in,
      run_len-here p w next (and_parts (p c) (list_all p w) all).1 stop,
    )

-- The text after a run stops the run.
pub run-stops : (p : ℕ → Bool) (s : List ℕ) → NextIsNot p (drop (run_len p s) s)
run-stops p [] = refl
run-stops p (c ∷ s) = by_test (λ n. NextIsNot p (drop n (c ∷ s))) (p c) (suc (run_len p s)) 0 (λ e. run-stops p s)
    (λ e. e)

-- Two classes have no character in common.
pub apart : (p q : ℕ → Bool) (s : List ℕ) → ((c : ℕ) → p c ≡ true → q c ≡ false) → NextIs p s → NextIsNot q s
apart p q s w3 w4 = grind (arith, common_steps)

-- A character in a class differs from every character outside it.
pub other_than : (p : ℕ → Bool) (k d : ℕ) → p k ≡ false → p d ≡ true → (d == k) ≡ false
other_than p k d out in_class = ne_eqb d k (λ e. true≢false (sym in_class ∙ (ap p e ∙ out)))

-- A property of each character in a list is a property of every character that is among them.
pub among : (f : ℕ → Bool) (ds : List ℕ) → list_all f ds ≡ true → (c : ℕ) → is_among ds c ≡ true → f c ≡ true
among f [] all c e = absurd (true≢false (sym e))
among f (d ∷ ds) all c e = let parts = and_parts (f d) (list_all f ds) all in
    elim (or_cases (c == d) (is_among ds c) e) [
      | inl a ↦ ap f (eqb-true c d a)
          ∙ parts.0
      | inr g ↦ among f ds parts.1 c g
    ]

pub none-among : (f : ℕ → Bool) (ds : List ℕ) → list_all (λ d. not (f d)) ds ≡ true → (c : ℕ) → is_among ds c ≡ true
    → f c ≡ false
none-among f ds all c e = not-true (f c) (among (λ d. not (f d)) ds all c e)

-- Holds if the class contains no whitespace.
abbrev pub IsSolid : (ℕ → Bool) → Type 0
IsSolid p = (c : ℕ) → is_whitespace c ≡ true → p c ≡ false

abbrev pub spaces : List ℕ
spaces = 0x9 ∷ 0xA ∷ 0xB ∷ 0xC ∷ 0xD ∷ 0x20 ∷ 0x85 ∷ 0x200E ∷ 0x200F ∷ 0x2028 ∷ 0x2029 ∷ []

pub solid-by : (p : ℕ → Bool) → list_all (λ d. not (p d)) spaces ≡ true → IsSolid p
solid-by p all c e = none-among p spaces all c e

pub either-way : {A : Type 0} (b : Bool) → b ≡ true → b ≡ false → A
either-way b t f = absurd (true≢false (sym t ∙ f))

-- ---- disjoint classes

space-no_word_start : IsSolid is_word_start
unfolding unicode_ident is_emoji emoji_ranges
space-no_word_start = solid-by is_word_start refl

pub word_start-no_space : (c : ℕ) → is_word_start c ≡ true → is_whitespace c ≡ false
word_start-no_space c e =
    false_from_ne_true (is_whitespace c) (λ s. either-way (is_word_start c) e (space-no_word_start c s))

pub digit-small : (d : ℕ) → is_ascii_digit d ≡ true → d < 128
digit-small d t = let le : d ≤ 57 = leb-true d 57 (and_parts (nat_le 48 d) (nat_le d 57) t).1 in omega arith

-- A digit is not whitespace, starts no word and ends no prefix.
pub digit-other : (d : ℕ) → is_ascii_digit d ≡ true
    → (is_whitespace d || (is_word_start d || ((d == 47) || ends_prefix d))) ≡ false
unfolding unicode_ident is_emoji emoji_ranges
digit-other d t = sym (ap (λ b. b && (is_whitespace d || (is_word_start d || ((d == 47) || ends_prefix d)))) t)
    ∙ agree_below_at (λ b. is_ascii_digit b && (is_whitespace b || (is_word_start b || ((b == 47) || ends_prefix b))))
    (λ b. false) 128 d refl (digit-small d t)

pub word_start-no_digit : (c : ℕ) → is_word_start c ≡ true → is_ascii_digit c ≡ false
word_start-no_digit c e =
    false_from_ne_true (is_ascii_digit c)
    (λ d. either-way (is_word_start c) e
    (or_parts (is_word_start c) _ (or_parts (is_whitespace c) _ (digit-other c d)).1).0)

-- A character that ends a prefix is in no word.
prefix_end-no_word : (c : ℕ) → ends_prefix c ≡ true → is_word_continue c ≡ false
unfolding unicode_ident is_emoji emoji_ranges
prefix_end-no_word c e = none-among is_word_continue (codes "#\"'") refl c e

pub word-no_prefix_end : (c : ℕ) → is_word_continue c ≡ true → ends_prefix c ≡ false
word-no_prefix_end c e =
    false_from_ne_true (ends_prefix c) (λ m. either-way (is_word_continue c) e (prefix_end-no_word c m))

pub prefix_end-stops : (s : List ℕ) → NextIs ends_prefix s → NextIsNot is_word_continue s
prefix_end-stops s = apart ends_prefix is_word_continue s prefix_end-no_word

pub start-word_start : (c : ℕ) → is_id_start c ≡ true → is_word_start c ≡ true
start-word_start c e = or_left (is_id_start c) (is_emoji c) e

-- The letters r, k, b and c, which can start more than a word, can start an identifier.
pub letters-start : (is_id_start 114 ≡ true) × (is_id_start 107 ≡ true) × (is_id_start 98 ≡ true)
    × (is_id_start 99 ≡ true)
unfolding unicode_ident
letters-start = (refl, refl, refl, refl)

-- ---- families

slash-no_start : is_word_start 47 ≡ false
unfolding unicode_ident is_emoji emoji_ranges
slash-no_start = refl

pub chooses : (c : ℕ) (f : Family) → family_of c ≡ f → past_first c ≡ read_by f c
unfolding past_first
chooses c f e = ap (λ g. read_by g c) e

pub chooses-slash : past_first 47 ≡ read_by Slash 47
chooses-slash = chooses 47 Slash refl

pub chooses-space : (c : ℕ) → is_whitespace c ≡ true → past_first c ≡ read_by Space c
chooses-space c e = chooses c Space (rw (other_than is_whitespace 47 c refl e, e) refl)

pub chooses-word : (c : ℕ) → is_id_start c ≡ true → past_first c ≡ read_by Word c
chooses-word c e =
    grind (arith, common_steps, start-word_start, chooses, other_than, slash-no_start, word_start-no_space)

pub chooses-number : (c : ℕ) → is_ascii_digit c ≡ true → past_first c ≡ read_by Number c
chooses-number c e =
    let parts = or_parts (is_whitespace c) _ (digit-other c e) in
    let more = or_parts (is_word_start c) _ parts.1 in
    let starts = or_parts (is_id_start c) (is_emoji c) more.0 in
    let last = or_parts (c == 47) (ends_prefix c) more.1 in
    chooses c Number (rw (last.0, parts.0, starts.0, e) refl)

pub chooses-quote : past_first 39 ≡ read_by Quote 39
unfolding unicode_ident is_emoji emoji_ranges
chooses-quote = chooses 39 Quote refl

pub chooses-str : past_first 34 ≡ read_by Str 34
unfolding unicode_ident is_emoji emoji_ranges
chooses-str = chooses 34 Str refl

pub chooses-hash : past_first 35 ≡ read_by Hash 35
unfolding unicode_ident is_emoji emoji_ranges
chooses-hash = chooses 35 Hash refl

prefix_end-no_word_start : (c : ℕ) → ends_prefix c ≡ true → is_word_start c ≡ false
unfolding unicode_ident is_emoji emoji_ranges
prefix_end-no_word_start c e = none-among is_word_start (codes "#\"'") refl c e

word_start-no_prefix_end : (c : ℕ) → is_word_start c ≡ true → ends_prefix c ≡ false
word_start-no_prefix_end c e =
    false_from_ne_true (ends_prefix c) (λ m. either-way (is_word_start c) e (prefix_end-no_word_start c m))

pub chooses-emoji : (c : ℕ) → is_id_start c ≡ false → is_emoji c ≡ true → past_first c ≡ read_by Emoji c
chooses-emoji c f e =
    let w : is_word_start c ≡ true = or_right (is_id_start c) (is_emoji c) e in
    let m = or_parts (c == 35) _ (word_start-no_prefix_end c w) in
    let n = or_parts (c == 34) _ m.1 in
    let o = or_parts (c == 39) _ n.1 in
    chooses c Emoji (rw (
      other_than is_word_start 47 c slash-no_start w,
      word_start-no_space c w,
      f,
      word_start-no_digit c w,
      o.0,
      n.0,
      e,
    ) refl)

pub chooses-symbol : (c : ℕ) → has_rule c ≡ false → past_first c ≡ read_by Symbol c
chooses-symbol c e = grind (arith, common_steps, or_parts, chooses)

-- ---- tokens

-- Holds if the text that is read after the first character c is a token together with c.
abbrev pub Sound : ℕ → List ℕ → TokenKind × ℕ → Type 0
Sound c s r = IsTokenBefore (drop r.1 s) r.0 (c ∷ take r.1 s)

-- Holds if the scanner reads a token of this kind with n characters.
abbrev pub Read : TokenKind → ℕ → List ℕ → Type 0
Read kind n s = lexeme s ≡ (kind, n)

pub pair : {A : Type 0} (a b : A) (m n : ℕ) → a ≡ b → m ≡ n → ◌≡◌ {A = A × ℕ} (a, m) (b, n)
pair {A} a b m n e f = ap (λ (x : A). let r : A × ℕ = (x, m) in r) e ∙ ap (λ (k : ℕ). let r : A × ℕ = (b, k) in r) f

pub read-first : (c : ℕ) (scan : List ℕ → TokenKind × ℕ) (s : List ℕ) (kind : TokenKind) (n m : ℕ) → past_first c ≡ scan
    → scan s ≡ (kind, n) → suc n ≡ m → Read kind m (c ∷ s)
read-first c scan s kind n m e f g = grind (arith, common_steps)

-- Reading one more character and then the rest gives a token, if the rest gives one.
pub sound-after : (c d : ℕ) (s : List ℕ) (scan : List ℕ → TokenKind × ℕ)
    → IsTokenBefore (drop (scan s).1 s) (scan s).0 (c ∷ d ∷ take (scan s).1 s) → Sound c (d ∷ s) (after 1 scan (d ∷ s))
sound-after c d s scan is = grind (arith, common_steps)

-- A result that the first j characters decide is decided by any prefix with j characters.
pub decided-front : {B : Type 0} (j : ℕ) (f : List ℕ → B) → IsDecidedBy j f → (w next : List ℕ) → j ≤ length w
    → f (w ++ next) ≡ f w
decided-front j f decided w next le =
    decided_same j (length w) f (w ++ next) w decided le
    (take-append_seam w next ∙ sym (take_all (length w) w (omega arith)))

pub begins-next : (d : ℕ) (s : List ℕ) → begins (d ∷ []) s ≡ next_is (is_among (d ∷ [])) s
begins-next d w1 = grind (arith, common_steps)

-- A property of the two parts of a text is a property of the text, cut at the length that is read.
pub parted : {A : Type 0} (Is : List ℕ → A → List ℕ → Type 0) (v next s : List ℕ) (a : A) (r : A × ℕ) → v ++ next ≡ s
    → r ≡ (a, length v) → Is next a v → Is (drop r.1 s) r.0 (take r.1 s)
parted {A} w1 v next s a r e f is = grind (arith, common_steps, take-append_seam, drop-append_seam)
