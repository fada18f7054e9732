-- Characters and lifetimes: the scanners read exactly the language.
use Rattle.std.proofs.Common.{◌≡◌, ℕ, zero, suc, ◌+◌, ◌==◌, ◌&&◌, ◌||◌, not, Bool, true, false, true≢false}
use Rattle.std.proofs.Common.{if◌then◌else◌, List, [], ◌∷◌, ◌++◌, length, take, drop, codes, refl, sym, ap, ◌∙◌, subst}
use Rattle.std.proofs.Common.{arith, append_assoc, length-append, take-append-drop, take-add}
use Rattle.std.proofs.Math.Seq.{take-append_seam, drop-append_seam}
use Rattle.std.proofs.lemmas.Bool.{and_parts, eqb-true, or_parts, or_left, false_from_ne_true, not-false}
use Rattle.std.specs.{Char.{is_ascii_digit}, List.{list_all}, Str.{encode_utf8_all}}
use Rattle.std.proofs.{Math.Bool.{or-true}, lemmas.Grind.{common_steps}}
use Rattle.unicode_ident.proofs.Computing.{unicode_ident}
use Rattle.rustc_lexer.specs.{TokenKind, Char, Literal, Lifetime, RawLifetime, UnknownPrefixLifetime}
use Rattle.rustc_lexer.specs.Classes.{is_among, is_id_continue, is_ident, is_word_continue, is_word_start}
use Rattle.rustc_lexer.specs.Classes.{is_name_start, begins_ident_after, AreAll, NextIs, NextIsNot, bytes, ends_prefix}
use Rattle.rustc_lexer.specs.Classes.{is_bad_name}
use Rattle.rustc_lexer.specs.Tables.{is_emoji, emoji_ranges}
use Rattle.rustc_lexer.specs.model.Ident.{begins_hash_ident}
use Rattle.rustc_lexer.specs.laws.Choice.{by_either, by_test}
use Rattle.rustc_lexer.specs.laws.LanguageLiterals.{bytes-append, bytes-one, literal-sound, past-read, ReadsLiteral}
use Rattle.rustc_lexer.specs.laws.LanguageQuoted.{single-read, single-sound}
use Rattle.rustc_lexer.specs.laws.LanguageRuns.{run_len-here, run-stops, either-way, other_than, Sound, Read, pair}
use Rattle.rustc_lexer.specs.laws.LanguageRuns.{read-first, begins-next, chooses-quote, word-no_prefix_end}
use Rattle.rustc_lexer.specs.laws.LanguageRuns.{prefix_end-stops, word_start-no_digit}
use Rattle.rustc_lexer.specs.laws.LanguageWords.{hash_ident-sound}
use Rattle.rustc_lexer.specs.laws.Lifetime.{raw, quoted_name, unquoted_name}
use Rattle.rustc_lexer.specs.laws.Reach.{run_all}
use Rattle.rustc_lexer.specs.Language as the
use Rattle.rustc_lexer.specs.LiteralGrammar as lit
use Rattle.rustc_lexer.specs.Language.{IsTokenBefore}
use Rattle.rustc_lexer.specs.LiteralGrammar.{ends, plain, escape, IsSingleQuoted, IsLiteralBefore}
use Rattle.rustc_lexer.specs.model.Lifetime.{past_name, plain_lifetime, is_character, is_raw, lifetime_or_char}
use Rattle.rustc_lexer.specs.model.Literal.{literal}
use Rattle.rustc_lexer.specs.model.Quoted.{single_quoted_string, char_body}
use Rattle.rustc_lexer.specs.model.Scan.{begins, run_len}

-- ---- classes

backslash-none : (is_name_start 92 ≡ false) × (is_name_start 47 ≡ false) × (is_name_start 10 ≡ false)
unfolding unicode_ident is_emoji emoji_ranges
backslash-none = (refl, refl, refl)

-- If the text after a word does not start with a character that ends a prefix, the text with the word does not either.
word-begins : (d : ℕ) (w next : List ℕ) → ends_prefix d ≡ true → AreAll is_word_continue w
    → begins (d ∷ []) next ≡ false → begins (d ∷ []) (w ++ next) ≡ false
word-begins d [] next is_end all none = none
word-begins d (c ∷ w) next is_end all none =
    false_from_ne_true (begins (d ∷ []) (c ∷ w ++ next))
    (λ e. either-way (ends_prefix c) (ap ends_prefix (eqb-true c d (and_parts (c == d) true e).0) ∙ is_end)
    (word-no_prefix_end c (and_parts (is_word_continue c) (list_all is_word_continue w) all).0))

-- ---- lifetimes

-- A name that is neither a character nor raw is read up to its end.
plain-read : (c : ℕ) (w next : List ℕ) (kind : TokenKind) (n : ℕ) → is_name_start c ≡ true
    → begins (codes "'") (w ++ next) ≡ false → is_raw c (w ++ next) ≡ false → AreAll is_word_continue w
    → NextIsNot is_word_continue next → past_name c w next ≡ (kind, n)
    → Read kind (suc (suc (length w + n))) (39 ∷ c ∷ w ++ next)
plain-read c w next kind n start none no_raw all stop e =
    grind (arith, common_steps, read-first, chooses-quote, run_len-here, take-append_seam, drop-append_seam)

-- `r` is raw only before a hash and the start of an identifier.
no_raw-word : (c : ℕ) (w next : List ℕ) → AreAll is_word_continue w
    → (begins (codes "#") next ≡ true → (c == 114) ≡ false) → is_raw c (w ++ next) ≡ false
no_raw-word c w next all other = grind (arith, common_steps, word-begins)

pub lifetime-read : (c : ℕ) (w next : List ℕ) → is_name_start c ≡ true → AreAll is_word_continue w
    → NextIsNot is_word_continue next → NextIsNot (is_among (codes "'")) next
    → (NextIs (is_among (codes "#")) next → is_ascii_digit c ≡ true)
    → Read (Lifetime (is_ascii_digit c || is_emoji c || not (list_all is_id_continue w))) (suc (suc (length w)))
    (39 ∷ c ∷ w ++ next)
lifetime-read c w next start all stop quote hash =
    plain-read c w next (Lifetime (is_bad_name (c ∷ w))) 0 start
    (word-begins 39 w next refl all (begins-next 39 next ∙ quote))
    (no_raw-word c w next all (λ e. other_than is_ascii_digit 114 c refl (hash (sym (begins-next 35 next) ∙ e))))
    all stop
    (rw (begins-next 39 next ∙ quote) (by_either (begins (codes "#") next)
    (λ e. let digit : is_ascii_digit c ≡ true = hash (sym (begins-next 35 next) ∙ e) in rw (e, digit) refl)
    (λ e. rw e refl)))
    ∙ pair _ _ _ _ refl (omega arith)

pub hash-stops : (next : List ℕ) → NextIs (is_among (codes "#")) next → NextIsNot is_word_continue next
hash-stops next w1 = grind (arith, common_steps, prefix_end-stops, or_left)

hash-no_quote : (next : List ℕ) → begins (codes "#") next ≡ true → begins (codes "'") next ≡ false
hash-no_quote next w1 = grind (arith, common_steps, eqb-true, and_parts)

-- The model and the language agree on raw names.
raw-same : (c : ℕ) (s : List ℕ) → begins_ident_after (codes "r#") (c ∷ s) ≡ is_raw c s
raw-same c s = grind (arith, common_steps)

pub prefix-read : (c : ℕ) (w next : List ℕ) → is_word_start c ≡ true → AreAll is_word_continue w
    → NextIs (is_among (codes "#")) next → begins_ident_after (codes "r#") (c ∷ w ++ next) ≡ false
    → Read UnknownPrefixLifetime (suc (suc (length w))) (39 ∷ c ∷ w ++ next)
prefix-read c w next start all hash free =
    let at_hash : begins (codes "#") next ≡ true = begins-next 35 next ∙ hash in
    let quote : begins (codes "'") next ≡ false = hash-no_quote next at_hash in
    plain-read c w next UnknownPrefixLifetime 0 (grind (arith, common_steps)) (word-begins 39 w next refl all quote)
    (sym (raw-same c (w ++ next)) ∙ free) all (hash-stops next hash)
    (rw (quote, at_hash, word_start-no_digit c start) refl)
    ∙ pair _ _ _ _ refl (omega arith)

r-name : is_name_start 114 ≡ true
unfolding unicode_ident is_emoji emoji_ranges
r-name = refl

pub raw_lifetime-read : (w next : List ℕ) → is_ident w ≡ true → NextIsNot is_id_continue next
    → Read RawLifetime (suc (suc (suc (length w)))) (39 ∷ 114 ∷ 35 ∷ w ++ next)
raw_lifetime-read w0 next is stop =
    grind (arith, common_steps, and_parts, read-first, chooses-quote, r-name, run_len-here)

-- ---- everything that the scanner reads is a character or a lifetime

abbrev IsLifetime : ℕ → List ℕ → TokenKind × ℕ → Type 0
IsLifetime c s r = IsTokenBefore (drop r.1 s) r.0 (39 ∷ c ∷ take r.1 s)

name-sound : (c : ℕ) (s : List ℕ) → is_name_start c ≡ true → begins (codes "'") s ≡ false → is_raw c s ≡ false
    → IsLifetime c s (plain_lifetime c s)
name-sound c s start none no_raw =
    by_test (λ r. IsLifetime c s (r.0, n + r.1)) (begins (codes "'") left) (quoted_name c name left)
    (unquoted_name c name left) (λ e. quoted name left refl refl e)
    (λ e. subst (λ (m : ℕ). IsTokenBefore (drop m s) (unquoted_name c name left).0 (39 ∷ c ∷ take m s)) same
    (unquoted e (begins (codes "#") left) (is_ascii_digit c) refl refl))
  where
    n : ℕ
    n = run_len is_word_continue s

    name : List ℕ
    name = take n s

    left : List ℕ
    left = drop n s

    same : n ≡ n + 0
    same = omega arith

    -- A name with a quote after it is a character literal.
    quoted : (w rest : List ℕ) → take n s ≡ w → drop n s ≡ rest → begins (codes "'") rest ≡ true
        → IsTokenBefore (drop (n + 1) s) (quoted_name c w rest).0 (39 ∷ c ∷ take (n + 1) s)
    quoted w [] e f g = absurd (true≢false (sym g))
    quoted [] (q ∷ rest) e f g =
        absurd (either-way (begins (codes "'") s)
        (ap (begins (codes "'")) (sym (take-append-drop n s) ∙ (ap (λ (u : List ℕ). u ++ drop n s) e ∙ f)) ∙ g) none)
    quoted (d ∷ w) (q ∷ rest) e f g =
        let quote : q ≡ 39 = eqb-true q 39 (and_parts (q == 39) true g).0 in
        let all : AreAll is_word_continue (d ∷ w) = ap (list_all is_word_continue) (sym e)
        ∙ run_all is_word_continue s in
        let text : 39 ∷ c ∷ d ∷ w ++ 39 ∷ [] ≡ 39 ∷ c ∷ take (n + 1) s =
        ap (λ (u : List ℕ). 39 ∷ c ∷ u)
        (ap (λ (x : ℕ). d ∷ w ++ x ∷ []) (sym quote)
        ∙ (ap (λ (u : List ℕ). u ++ take 1 (q ∷ rest)) (sym e)
        ∙ (ap (λ (u : List ℕ). take n s ++ take 1 u) (sym f) ∙ sym (take-add n 1 s)))) in
        let size : bytes (39 ∷ c ∷ d ∷ w ++ 39 ∷ []) ≡ 2 + length (encode_utf8_all (c ∷ d ∷ w)) =
        omega (
          arith,
          bytes-one 39 (c ∷ d ∷ w ++ 39 ∷ []) refl,
          bytes-append (c ∷ d ∷ w) (39 ∷ []),
          bytes-one 39 [] refl,
        ) in
        subst (λ (u : List ℕ). IsTokenBefore (drop (n + 1) s)
        (Literal (Char true) (2 + length (encode_utf8_all (c ∷ d ∷ w)))) u) text
        (subst (λ (b : ℕ). IsTokenBefore (drop (n + 1) s) (Literal (Char true) b) (39 ∷ c ∷ d ∷ w ++ 39 ∷ [])) size
        (the.literal (lit.char_of_name w start all)))

    stops : NextIsNot is_word_continue left
    stops = run-stops is_word_continue s

    unquoted : begins (codes "'") left ≡ false → (hash digit : Bool) → begins (codes "#") left ≡ hash
        → is_ascii_digit c ≡ digit
        → IsTokenBefore left (if hash && not digit then UnknownPrefixLifetime else Lifetime (is_bad_name (c ∷ name)))
        (39 ∷ c ∷ name)
    unquoted e true false f g = the.unknown_prefix_lifetime (grind (arith, common_steps)) (run_all is_word_continue s)
        (sym (begins-next 35 left) ∙ f) (raw-same c (name ++ left) ∙ (ap (is_raw c) (take-append-drop n s) ∙ no_raw))
    unquoted e true true f g = the.lifetime start (run_all is_word_continue s) stops (sym (begins-next 39 left) ∙ e)
        (λ h. g)
    unquoted e false digit f g = the.lifetime start (run_all is_word_continue s) stops (sym (begins-next 39 left) ∙ e)
        (λ h. absurd (either-way (begins (codes "#") left) (begins-next 35 left ∙ h) f))

raw-lifetime : (c : ℕ) (s : List ℕ) → is_raw c s ≡ true → IsLifetime c s (raw s)
raw-lifetime c s e =
    let parts = and_parts (c == 114) (begins_hash_ident s) e in
    let letter : 114 ≡ c = sym (eqb-true c 114 parts.0) in
    subst (λ (x : ℕ). IsLifetime x s (raw s)) letter
    (hash_ident-sound (λ next w. IsTokenBefore next RawLifetime (39 ∷ 114 ∷ w))
    (λ w next is stop. the.raw_lifetime is stop) s parts.1)

-- ---- characters

char-sound : (s : List ℕ) → NextIsNot is_name_start s → Sound 39 s (literal char_body s)
char-sound s stop = literal-sound (39 ∷ []) 1 (Char (single_quoted_string s).0) (single_quoted_string s).0
    (single_quoted_string s).1 s (bytes-one 39 [] refl ∙ omega arith)
    (lit.char (single-sound s) (front-stops (single_quoted_string s).1 s stop))
  where
    front-stops : (m : ℕ) (s : List ℕ) → NextIsNot is_name_start s → NextIsNot is_name_start (take m s)
    front-stops zero s e = refl
    front-stops (suc m) [] e = refl
    front-stops (suc m) (c ∷ s) e = e

-- A name of one character with a quote after it is a character.
one-sound : (c : ℕ) (s : List ℕ) → is_name_start c ≡ true → begins (codes "'") s ≡ true
    → Sound 39 (c ∷ s) (literal char_body (c ∷ s))
one-sound c [] start e = absurd (true≢false (sym e))
one-sound c (d ∷ s) start e =
    let out : (c == 92) ≡ false = other_than is_name_start 92 c backslash-none.0 start in
    let quote : 39 ≡ d = sym (eqb-true d 39 (and_parts (d == 39) true e).0) in
    let read : single_quoted_string (c ∷ 39 ∷ s) ≡ (true, 2) = rw out refl in
    let one : IsLiteralBefore (drop 2 (c ∷ 39 ∷ s)) (Char true) true (39 ∷ take 2 (c ∷ 39 ∷ s)) = lit.char_of_one out in
    subst (λ (x : ℕ). Sound 39 (c ∷ x ∷ s) (literal char_body (c ∷ x ∷ s))) quote
    (literal-sound (39 ∷ []) 1 (Char (single_quoted_string (c ∷ 39 ∷ s)).0) (single_quoted_string (c ∷ 39 ∷ s)).0
    (single_quoted_string (c ∷ 39 ∷ s)).1 (c ∷ 39 ∷ s) (bytes-one 39 [] refl ∙ omega arith)
    (subst (λ (r : Bool × ℕ). IsLiteralBefore (drop r.1 (c ∷ 39 ∷ s)) (Char r.0) r.0 (39 ∷ take r.1 (c ∷ 39 ∷ s)))
    (sym read) one))

pub quote-sound : (s : List ℕ) → Sound 39 s (lifetime_or_char s)
quote-sound [] = char-sound [] refl
quote-sound (c ∷ s) = by_test (Sound 39 (c ∷ s)) (is_character c s) (literal char_body (c ∷ s)) _
    (λ e. by_name (is_name_start c) refl e) (grind (arith, common_steps, or_parts, raw-lifetime, name-sound, not-false))
  where
    second : (b d : Bool) → d ≡ true → (b || not d) ≡ true → b ≡ true
    second true d e f = refl
    second false d e f = absurd (true≢false (sym (sym (rw e refl) ∙ f)))

    by_name : (b : Bool) → is_name_start c ≡ b → is_character c s ≡ true → Sound 39 (c ∷ s) (literal char_body (c ∷ s))
    by_name true e f = one-sound c s e (second (begins (codes "'") s) (is_name_start c) e f)
    by_name false e f = char-sound (c ∷ s) e

empty-or : (w next : List ℕ) → NextIsNot is_name_start w → NextIsNot is_name_start next
    → NextIsNot is_name_start (w ++ next)
empty-or w next w2 w3 = grind (arith, common_steps)

pub end-stops : (d : ℕ) (end next : List ℕ) {w : List ℕ} → lit.SingleTo (d ∷ end) w → NextIsNot is_name_start w
    → NextIsNot is_name_start (w ++ next)
end-stops d end next w0 w1 = grind (arith, common_steps)

-- A text in single quotes that does not start with a name does not start with one together with the text after it
-- either.
next-stops : {next : List ℕ} {t : Bool} {w : List ℕ} → IsSingleQuoted next t w → NextIsNot is_name_start w
    → NextIsNot is_name_start (w ++ next)
next-stops {next} w1 e =
    grind (arith, common_steps, end-stops, empty-or, eqb-true, and_parts, begins-next, backslash-none)

pub char-reads : {next : List ℕ} (t : Bool) (w : List ℕ) → IsSingleQuoted next t w → NextIsNot is_name_start w
    → ReadsLiteral next (Char t) t (39 ∷ w)
char-reads {next} t w q stop =
    grind (arith, common_steps, read-first, chooses-quote, or-true, next-stops, past-read, single-read, bytes-one)

pub one-reads : (next : List ℕ) (c : ℕ) → (c == 92) ≡ false → ReadsLiteral next (Char true) true (39 ∷ c ∷ 39 ∷ [])
one-reads next c out = grind (arith, common_steps, read-first, chooses-quote, past-read, bytes-one)

pub name-reads : (next : List ℕ) (c d : ℕ) (w : List ℕ) → is_name_start c ≡ true → AreAll is_word_continue (d ∷ w)
    → ReadsLiteral next (Char true) false (39 ∷ c ∷ d ∷ w ++ 39 ∷ [])
name-reads next c d w start all =
    let text : 39 ∷ c ∷ d ∷ w ++ 39 ∷ next ≡ 39 ∷ c ∷ d ∷ w ++ 39 ∷ [] ++ next =
    ap (λ (u : List ℕ). 39 ∷ c ∷ d ∷ u) (sym (append_assoc w (39 ∷ []) next)) in
    let first_word : is_word_continue d ≡ true = (and_parts (is_word_continue d) (list_all is_word_continue w) all).0 in
    let none : (d == 39) ≡ false =
    false_from_ne_true (d == 39)
    (λ e. either-way (ends_prefix d) (ap ends_prefix (eqb-true d 39 e)) (word-no_prefix_end d first_word)) in
    let size : 2 + length (encode_utf8_all (c ∷ d ∷ w)) ≡ bytes (39 ∷ c ∷ d ∷ w ++ 39 ∷ []) =
    omega (
      arith,
      bytes-one 39 (c ∷ d ∷ w ++ 39 ∷ []) refl,
      bytes-append (c ∷ d ∷ w) (39 ∷ []),
      bytes-one 39 [] refl,
    ) in
    subst (λ (s : List ℕ). Read (Literal (Char true) (bytes (39 ∷ c ∷ d ∷ w ++ 39 ∷ [])))
    (length (39 ∷ c ∷ d ∷ w ++ 39 ∷ []) + 0) s) text
    (plain-read c (d ∷ w) (39 ∷ next) (Literal (Char true) (2 + length (encode_utf8_all (c ∷ d ∷ w)))) 1 start
    (rw none refl) (no_raw-word c (d ∷ w) (39 ∷ next) all (λ e. absurd (true≢false (sym e)))) all
    (prefix_end-stops (39 ∷ next) refl) refl
    ∙ pair _ _ _ _ (ap (Literal (Char true)) size) (omega (arith, length-append w (39 ∷ []))))
