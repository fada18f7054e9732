-- Words: the scanners read exactly the language.
use Rattle.std.proofs.Common.{◌≡◌, ℕ, suc, ◌+◌, ◌==◌, ◌&&◌, Bool, true, false, true≢false, if◌then◌else◌, List, [], ◌∷◌}
use Rattle.std.proofs.Common.{◌++◌, length, take, drop, codes, refl, sym, ap, ◌∙◌, arith, take-append-drop}
use Rattle.std.proofs.Math.Seq.{take-append_seam, drop-append_seam}
use Rattle.std.proofs.lemmas.Bool.{and_parts, eqb-true, or_parts, or_from, false_from_ne_true}
use Rattle.std.specs.List.{list_all}
use Rattle.std.proofs.lemmas.Grind.{common_steps}
use Rattle.unicode_ident.proofs.Computing.{unicode_ident}
use Rattle.rustc_lexer.specs.{TokenKind, Ident, InvalidIdent, RawIdent, ForcedKeywordIdent, UnknownPrefix}
use Rattle.rustc_lexer.specs.Classes.{is_id_start, is_id_continue, is_ident, is_word_continue, is_word_start}
use Rattle.rustc_lexer.specs.Classes.{begins_ident_after, AreAll, NextIs, NextIsNot, ends_prefix}
use Rattle.rustc_lexer.specs.Tables.{is_emoji, emoji_ranges}
use Rattle.rustc_lexer.specs.model.Ident.{ident_kind, ident_or_unknown_prefix, invalid_ident, begins_hash_ident}
use Rattle.rustc_lexer.specs.model.Ident.{hash_ident_or}
use Rattle.rustc_lexer.specs.laws.LanguageRuns.{run_len-here, run-stops, Sound, Read, read-first, begins-next}
use Rattle.rustc_lexer.specs.laws.LanguageRuns.{chooses-word, chooses-emoji, word-no_prefix_end, prefix_end-stops}
use Rattle.rustc_lexer.specs.laws.LanguageRuns.{start-word_start, letters-start}
use Rattle.rustc_lexer.specs.laws.Reach.{run_all}
use Rattle.rustc_lexer.specs.Language as the
use Rattle.rustc_lexer.specs.Language.{IsTokenBefore, begins_prefixed}
use Rattle.rustc_lexer.specs.model.Lexeme.{letter_r, letter_k, letter_b, letter_c, raw_or_ident, word, opens_raw}
use Rattle.rustc_lexer.specs.model.Lexeme.{begins_raw}
use Rattle.rustc_lexer.specs.model.Scan.{after, begins, next_is, run, run_len}

-- ---- a choice by letters

-- A proof can distinguish each letter that can start more than an identifier, and any other start.
pub by_letter : (P : ℕ → (List ℕ → TokenKind × ℕ) → Type 0) (c : ℕ) → P 114 letter_r → P 107 letter_k → P 98 letter_b
    → P 99 letter_c
    → ((c == 114) ≡ false → (c == 107) ≡ false → (c == 98) ≡ false → (c == 99) ≡ false → P c ident_or_unknown_prefix)
    → P c (word c)
by_letter w0 c of_r of_k of_b of_c other = grind (arith, common_steps)

-- ---- texts that start no identifier

-- Holds if the text starts with none of these.
pub record BeginsNone (s : List ℕ) : Type 0 where
  pub r_quote : begins (codes "r\"") s ≡ false
  pub r_hash : begins (codes "r#") s ≡ false
  pub b_one : begins (codes "b'") s ≡ false
  pub b_quote : begins (codes "b\"") s ≡ false
  pub br_quote : begins (codes "br\"") s ≡ false
  pub br_hash : begins (codes "br#") s ≡ false
  pub c_quote : begins (codes "c\"") s ≡ false
  pub cr_quote : begins (codes "cr\"") s ≡ false
  pub cr_hash : begins (codes "cr#") s ≡ false
  pub k_hash : begins_ident_after (codes "k#") s ≡ false

pub no-opening : (s : List ℕ) → BeginsNone s → begins_prefixed s ≡ false
no-opening s n = grind (arith, common_steps, or_from)

-- A text that starts with neither a quote nor a hash opens no raw string.
opens_raw-stops : (s : List ℕ) → begins (codes "\"") s ≡ false → begins (codes "#") s ≡ false → NextIsNot opens_raw s
opens_raw-stops s w1 w2 = grind (arith, common_steps, or_from, or_parts, begins-next)

pub opens_raw-none : (s : List ℕ) → NextIsNot opens_raw s → (begins (codes "\"") s ≡ false)
    × (begins (codes "#") s ≡ false)
opens_raw-none w0 e = grind (arith, common_steps, or_parts, begins-next, or_from)

pub none-raw : (s : List ℕ) → begins_raw s ≡ false → (begins (codes "r\"") s ≡ false) × (begins (codes "r#") s ≡ false)
none-raw w0 e = grind (arith, common_steps, opens_raw-none)

-- ---- identifiers that the scanner reads

word-plain : (c : ℕ) (s : List ℕ) → begins_prefixed (c ∷ s) ≡ false → word c s ≡ ident_or_unknown_prefix s
word-plain c = grind (arith, common_steps, by_letter, opens_raw-stops, or_parts)

-- ---- a word directly before a character that ends a prefix

-- Holds if w is the word f, and the text after it starts with a character that ends a prefix.
record IsWholeWord (f w next : List ℕ) : Type 0 where
  same : w ≡ f
  at_prefix_end : NextIs ends_prefix next

whole-word : (f : List ℕ) (m : ℕ) (w next : List ℕ) → ends_prefix m ≡ true → AreAll is_word_continue f
    → AreAll is_word_continue w → NextIsNot is_word_continue next → begins (f ++ m ∷ []) (w ++ next) ≡ true
    → IsWholeWord f w next
whole-word [] m [] [] is_end fs ws stop e = absurd (true≢false (sym e))
whole-word [] m [] (d ∷ next) is_end fs ws stop e =
    record { same = refl; at_prefix_end = ap ends_prefix (eqb-true d m (and_parts (d == m) true e).0) ∙ is_end }
whole-word [] m (d ∷ w) next is_end fs ws stop e = grind (arith, common_steps, eqb-true, and_parts, word-no_prefix_end)
whole-word (x ∷ f) m [] [] is_end fs ws stop e = absurd (true≢false (sym e))
whole-word (x ∷ f) m [] (d ∷ next) is_end fs ws stop e = grind (arith, common_steps, eqb-true, and_parts)
whole-word (x ∷ f) m (d ∷ w) next is_end fs ws stop e =
    let parts = and_parts (d == x) _ e in
    let more = whole-word f m w next is_end (and_parts (is_word_continue x) (list_all is_word_continue f) fs).1
    (and_parts (is_word_continue d) (list_all is_word_continue w) ws).1 stop parts.1 in
    record {
      same = ap (λ (y : ℕ). y ∷ w) (eqb-true d x parts.0) ∙ ap (λ (ys : List ℕ). x ∷ ys) more.same;
      at_prefix_end = more.at_prefix_end;
    }

module _ (c : ℕ) (w next : List ℕ) (ws : AreAll is_word_continue w) (stop : NextIsNot is_word_continue next)
    (right : NextIs ends_prefix next → is_ident (c ∷ w) ≡ false) where
  no-front : (x : ℕ) (f : List ℕ) (m : ℕ) → ends_prefix m ≡ true → AreAll is_word_continue f → is_ident (x ∷ f) ≡ true
      → begins (x ∷ f ++ m ∷ []) (c ∷ w ++ next) ≡ false
  no-front x f m is_end fs is = grind (arith, common_steps, false_from_ne_true, and_parts, whole-word, eqb-true)

  -- A word starts none of these if no character that ends a prefix follows it, or if it is not an identifier.
  pub word-no_opening : begins_prefixed (c ∷ w ++ next) ≡ false
  unfolding unicode_ident is_emoji emoji_ranges
  word-no_opening = no-opening (c ∷ w ++ next) record {
    r_quote = no-front 114 [] 34 refl refl refl;
    r_hash = no-front 114 [] 35 refl refl refl;
    b_one = no-front 98 [] 39 refl refl refl;
    b_quote = no-front 98 [] 34 refl refl refl;
    br_quote = no-front 98 (114 ∷ []) 34 refl refl refl;
    br_hash = no-front 98 (114 ∷ []) 35 refl refl refl;
    c_quote = no-front 99 [] 34 refl refl refl;
    cr_quote = no-front 99 (114 ∷ []) 34 refl refl refl;
    cr_hash = no-front 99 (114 ∷ []) 35 refl refl refl;
    k_hash = by_front (begins (codes "k#") (c ∷ w ++ next)) (no-front 107 [] 35 refl refl refl);
  }
    where
      by_front : (b : Bool) → b ≡ false → (b && next_is is_id_start (drop 1 (w ++ next))) ≡ false
      by_front b e = rw e refl

-- ---- identifiers

pub continue-word : (w : List ℕ) → AreAll is_id_continue w → AreAll is_word_continue w
continue-word [] all = refl
continue-word (c ∷ w) all = let parts = and_parts (is_id_continue c) (list_all is_id_continue w) all in
    rw parts.0 (continue-word w parts.1)

plain-read : (c : ℕ) (w next : List ℕ) (kind : TokenKind) → is_id_start c ≡ true → AreAll is_word_continue w
    → NextIsNot is_word_continue next → begins_prefixed (c ∷ w ++ next) ≡ false → ident_kind w next ≡ kind
    → Read kind (suc (length w)) (c ∷ w ++ next)
plain-read c w next kind start all stop free is =
    grind (arith, common_steps, read-first, chooses-word, word-plain, run_len-here, take-append_seam, drop-append_seam)

pub ident-is_read : (w next : List ℕ) → is_ident w ≡ true → NextIsNot is_word_continue next → NextIsNot ends_prefix next
    → Read Ident (length w) (w ++ next)
ident-is_read w0 next is stop none = grind (arith, common_steps, and_parts, continue-word, plain-read, word-no_opening)

pub prefix-read : (w next : List ℕ) → is_ident w ≡ true → NextIs ends_prefix next → begins_prefixed (w ++ next) ≡ false
    → Read UnknownPrefix (length w) (w ++ next)
prefix-read w0 next is goes free = grind (arith, common_steps, and_parts, plain-read, continue-word, prefix_end-stops)

pub invalid-read : (c : ℕ) (w next : List ℕ) → is_word_start c ≡ true → AreAll is_word_continue w
    → is_ident (c ∷ w) ≡ false → NextIsNot is_word_continue next → Read InvalidIdent (suc (length w)) (c ∷ w ++ next)
invalid-read c w next start all wrong stop =
    grind (arith, plain-read, word-no_opening, read-first, chooses-emoji, run_len-here)

-- An identifier after a hash is read up to its end.
hash_ident-read : (kind : TokenKind) (other : List ℕ → TokenKind × ℕ) (w next : List ℕ) → is_ident w ≡ true
    → NextIsNot is_id_continue next → hash_ident_or kind other (35 ∷ w ++ next) ≡ (kind, suc (length w))
hash_ident-read kind other w2 next is stop = grind (arith, common_steps, and_parts, run_len-here)

pub raw_ident-read : (w next : List ℕ) → is_ident w ≡ true → NextIsNot is_id_continue next
    → Read RawIdent (suc (suc (length w))) (114 ∷ 35 ∷ w ++ next)
raw_ident-read w next is stop =
    read-first 114 (word 114) (35 ∷ w ++ next) RawIdent (suc (length w)) _ (chooses-word 114 letters-start.0)
    (hash_ident-read RawIdent raw_or_ident w next is stop) refl

pub keyword-read : (w next : List ℕ) → is_ident w ≡ true → NextIsNot is_id_continue next
    → Read ForcedKeywordIdent (suc (suc (length w))) (107 ∷ 35 ∷ w ++ next)
keyword-read w next is stop = read-first 107 (word 107) (35 ∷ w ++ next) ForcedKeywordIdent (suc (length w)) _
    (chooses-word 107 letters-start.1) (hash_ident-read ForcedKeywordIdent ident_or_unknown_prefix w next is stop) refl

-- ---- everything that the scanner reads is a word

pub ident-sound : (c : ℕ) → is_id_start c ≡ true → (s : List ℕ) → begins_prefixed (c ∷ s) ≡ false
    → Sound c s (ident_or_unknown_prefix s)
ident-sound c start s free = by_kind (list_all is_id_continue (take n s)) (next_is ends_prefix (drop n s)) refl refl
  where
    n : ℕ
    n = run_len is_word_continue s

    whole : c ∷ take n s ++ drop n s ≡ c ∷ s
    whole = ap (λ (xs : List ℕ). c ∷ xs) (take-append-drop n s)

    by_kind : (plain at_prefix_end : Bool) → list_all is_id_continue (take n s) ≡ plain
        → next_is ends_prefix (drop n s) ≡ at_prefix_end
        → IsTokenBefore (drop n s) (if plain then (if at_prefix_end then UnknownPrefix else Ident) else InvalidIdent)
        (c ∷ take n s)
    by_kind true true e f = the.unknown_prefix (rw (start, e) refl) f (ap begins_prefixed whole ∙ free)
    by_kind true false e f = the.ident (rw (start, e) refl) (run-stops is_word_continue s) f
    by_kind false at_prefix_end e f = the.invalid_ident (start-word_start c start) (run_all is_word_continue s)
        (rw (start, e) refl) (run-stops is_word_continue s)

pub invalid-sound : (c : ℕ) → is_id_start c ≡ false → is_emoji c ≡ true → (s : List ℕ) → Sound c s (invalid_ident s)
invalid-sound c no_start emoji s = the.invalid_ident (rw (no_start, emoji) refl) (run_all is_word_continue s)
    (rw no_start refl) (run-stops is_word_continue s)

-- A property of every hash with an identifier is a property of the hash and the identifier that are read.
pub hash_ident-sound : (P : List ℕ → List ℕ → Type 0)
    → ((w next : List ℕ) → is_ident w ≡ true → NextIsNot is_id_continue next → P next (35 ∷ w)) → (s : List ℕ)
    → begins_hash_ident s ≡ true
    → P (drop (2 + run_len is_id_continue (drop 2 s)) s) (take (2 + run_len is_id_continue (drop 2 s)) s)
hash_ident-sound w0 is w2 e = grind (arith, common_steps, and_parts, eqb-true, run_all, run-stops)

pub raw_ident-sound : (s : List ℕ) → begins_hash_ident s ≡ true → Sound 114 s (after 2 (run RawIdent is_id_continue) s)
raw_ident-sound =
    hash_ident-sound (λ next w. IsTokenBefore next RawIdent (114 ∷ w)) (λ w next is stop. the.raw_ident is stop)

pub keyword-sound : (s : List ℕ) → begins_hash_ident s ≡ true
    → Sound 107 s (after 2 (run ForcedKeywordIdent is_id_continue) s)
keyword-sound = hash_ident-sound (λ next w. IsTokenBefore next ForcedKeywordIdent (107 ∷ w))
    (λ w next is stop. the.forced_keyword is stop)
