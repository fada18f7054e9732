-- The token at the front of a text in an edition is the token that the language of this edition has there.
use Rattle.std.proofs.Common.{◌≡◌, ◌≢◌, ◌↔◌, ℕ, ◌+◌, ◌<◌, ◌≤◌, ◌==◌, Bool, true, false, true≢false, List, [], ◌∷◌, ◌++◌}
use Rattle.std.proofs.Common.{length, take, drop, codes, refl, sym, ap, ◌∙◌, subst, arith, take-append-drop}
use lib.Utf8.{encode}
use Rattle.std.proofs.{Math.Seq.{take-append_seam}, lemmas.Bool.{and_parts, leb-true, leb-false, eqb-true}}
use Rattle.std.specs.Str.{chars}
use Rattle.std.proofs.lemmas.Grind.{common_steps}
use Rattle.rustc_lexer.specs.{Edition, Token, TokenKind, Ident, UnknownPrefix, UnknownPrefixLifetime, RawLifetime}
use Rattle.rustc_lexer.specs.{Lifetime, GuardedStrPrefix, Pound}
use Rattle.rustc_lexer.specs.Classes.{is_among, is_id_continue, is_ident, is_word_continue, is_word_start}
use Rattle.rustc_lexer.specs.Classes.{begins_ident_after, AreAll, NextIs, bytes, IsText, is_bad_name}
use Rattle.rustc_lexer.specs.LanguageText.{year, lexed_since, newest, IsTokenIn, kept, pound, ident, lifetime}
use Rattle.rustc_lexer.specs.LanguageText.{lifetime_r}
use Rattle.rustc_lexer.specs.model.Edition.{token, has_bad_name, before_2024, before_2021, changed, first_token_in}
use Rattle.rustc_lexer.specs.Language as the
use Rattle.rustc_lexer.specs.Language.{IsTokenBefore}
use Rattle.rustc_lexer.specs.model.Lexeme.{past_first, lexeme, first_token, symbols, symbol_kind}
use Rattle.rustc_lexer.specs.model.Scan.{bytes_of, next_is, run_len}
use Rattle.rustc_lexer.specs.laws.Choice.{by_either, by_symbol}
use Rattle.rustc_lexer.specs.laws.Language.{lexeme-sound}
use Rattle.rustc_lexer.specs.laws.LanguageRuns.{run_len-here}
use Rattle.rustc_lexer.specs.laws.LanguageWords.{hash_ident-sound}
use Rattle.rustc_lexer.specs.laws.LanguageFront.{empty-text, first-is}
use Rattle.rustc_lexer.specs.laws.LanguageLifetimes.{hash-stops}

-- ---- tokens that an edition keeps

kept_2021 : (kind : TokenKind) (len : ℕ) → lexed_since kind < 2024 → before_2024 kind len ≡ token kind len
kept_2021 kind len w2 = grind (arith, common_steps)

-- No edition is older than 2015.
pub oldest : (edition : Edition) → 2015 ≤ year edition
oldest w0 = grind (arith, common_steps)

keeps : (edition : Edition) (cs : List ℕ) (kind : TokenKind) (len : ℕ) → lexed_since kind ≤ year edition
    → changed edition cs (token kind len) ≡ token kind len
keeps edition cs kind len le = grind (arith, common_steps, kept_2021, leb-false)

guarded-cut : (edition : Edition) (cs : List ℕ) (len : ℕ) → year edition < 2024
    → changed edition cs (token GuardedStrPrefix len) ≡ token Pound 1
guarded-cut edition cs len lt = grind (arith, common_steps, leb-true)

before : (edition : Edition) (cs : List ℕ) (t : Token) → year edition < 2021
    → changed edition cs t ≡ before_2021 cs t.kind t.len
before edition cs t lt = grind (arith, common_steps, leb-true)

-- ---- the tokens of the grammar, by whether an older edition can change them

data View (next : List ℕ) : TokenKind → List ℕ → Type 0 where
  cut_hash : {c : ℕ} → View next GuardedStrPrefix (35 ∷ c ∷ [])
  cut_raw : {w : List ℕ} → is_ident w ≡ true → View next RawLifetime (39 ∷ 114 ∷ 35 ∷ w)
  name : {c : ℕ} {w : List ℕ} → is_word_start c ≡ true → AreAll is_word_continue w → NextIs (is_among (codes "#")) next
      → View next UnknownPrefixLifetime (39 ∷ c ∷ w)
  prefix : {w : List ℕ} → View next UnknownPrefix w
  other : {kind : TokenKind} {w : List ℕ} → lexed_since kind ≡ 2015 → View next kind w

symbol-old : (c : ℕ) → lexed_since (symbol_kind c) ≡ 2015
symbol-old c = eqb-true _ 2015 (by_symbol (λ kind. lexed_since kind == 2015) symbols c refl refl)

view : {next : List ℕ} {kind : TokenKind} {w : List ℕ} → IsTokenBefore next kind w → View next kind w
view (the.unknown_prefix is goes free) = prefix
view (the.unknown_prefix_lifetime start all hash free) = name start all hash
view (the.raw_lifetime is stop) = cut_raw is
view (the.guarded_prefix is) = cut_hash
view (the.symbol {c} is) = other (symbol-old c)
view whole = other refl

-- A token that does not start with a hash is the same in 2021 and 2024.
pub unhashed : {next : List ℕ} {kind : TokenKind} {c : ℕ} {w : List ℕ} → IsTokenBefore next kind (c ∷ w) → c ≢ 35
    → (len : ℕ) → before_2024 kind len ≡ token kind len
unhashed p none len = grind (arith, common_steps, view, kept_2021)

-- Whether a name is invalid.
name-bad : (c : ℕ) (w next : List ℕ) → AreAll is_word_continue w → NextIs (is_among (codes "#")) next
    → has_bad_name (39 ∷ c ∷ w ++ next) ≡ is_bad_name (c ∷ w)
name-bad c w next all hash = grind (arith, common_steps, run_len-here, hash-stops, take-append_seam)

lifetime-bad : {next : List ℕ} {kind : TokenKind} {c : ℕ} {w : List ℕ} → View next kind (39 ∷ c ∷ w)
    → kind ≡ UnknownPrefixLifetime → has_bad_name (39 ∷ c ∷ w ++ next) ≡ is_bad_name (c ∷ w)
lifetime-bad w0 w1 = grind (arith, common_steps, name-bad)

-- ---- the scanner reads every token of an edition

hash-one : bytes (35 ∷ []) ≡ 1
unfolding encode
hash-one = refl

r-two : bytes (39 ∷ 114 ∷ []) ≡ 2
unfolding encode
r-two = refl

-- Holds if `'r` followed by w is a raw lifetime before `next`.
abbrev IsRawBefore : List ℕ → List ℕ → Type 0
IsRawBefore next w = IsTokenBefore next RawLifetime (39 ∷ 114 ∷ w)

raw-first : (next text : List ℕ) → chars text ≡ 39 ∷ 114 ∷ next → begins_ident_after (codes "#") next ≡ true
    → (first_token text).kind ≡ RawLifetime
raw-first next text e goes =
    let n : ℕ = 2 + run_len is_id_continue (drop 2 next) in
    ap (λ (t : Token). t.kind)
    (first-is (hash_ident-sound IsRawBefore (λ w rest is stop. the.raw_lifetime is stop) next goes) text
    (e ∙ ap (λ (u : List ℕ). 39 ∷ 114 ∷ u) (sym (take-append-drop n next))))

pub token-read-in : {edition : Edition} {next : List ℕ} {kind : TokenKind} {c : ℕ} {w : List ℕ}
    → IsTokenIn edition next kind (c ∷ w) → (text : List ℕ) → chars text ≡ c ∷ w ++ next
    → first_token_in edition text ≡ token kind (bytes (c ∷ w))
token-read-in {edition} {next} {kind} {c} {w} (kept le p) text e = ap (changed edition (chars text)) (first-is p text e)
    ∙ keeps edition (chars text) kind (bytes (c ∷ w)) le
token-read-in {edition} {next} (pound lt) text e = by_next next e ∙ ap (token Pound) (sym hash-one)
  where
    by_next : (s : List ℕ) → chars text ≡ 35 ∷ s → first_token_in edition text ≡ token Pound 1
    by_next s f = by_either (next_is (is_among (codes "\"#")) s)
        (λ b. guarded s f b)
        (λ b. ap (changed edition (chars text)) (first-is {next = s} (the.pound b) text f)
        ∙ (keeps edition (chars text) Pound (bytes (35 ∷ [])) (oldest edition) ∙ ap (token Pound) hash-one))
      where
        guarded : (u : List ℕ) → chars text ≡ 35 ∷ u → next_is (is_among (codes "\"#")) u ≡ true
            → first_token_in edition text ≡ token Pound 1
        guarded [] g b = absurd (true≢false (sym b))
        guarded (d ∷ u) g b =
            ap (changed edition (chars text)) (first-is {next = u} (the.guarded_prefix {c = d} b) text g)
            ∙ guarded-cut edition (chars text) (bytes (35 ∷ d ∷ [])) lt
token-read-in {edition} {next} {kind} {c} {w} (ident lt p) text e =
    ap (changed edition (chars text)) (first-is p text e)
    ∙ before edition (chars text) (token UnknownPrefix (bytes (c ∷ w))) lt
token-read-in {edition} {next} (lifetime {c} {w} lt p) text e =
    grind (arith, common_steps, first-is, before, lifetime-bad, view)
token-read-in {edition} {next} (lifetime_r lt goes) text e = grind (arith, common_steps, before, raw-first, r-two)

-- ---- everything that the scanner reads is a token of the edition

-- Holds if the token is at the front of the characters, and consists of c and w.
pub record Front (edition : Edition) (cs : List ℕ) (t : Token) : Type 0 where
  pub kind : TokenKind
  pub c : ℕ
  pub w : List ℕ
  pub next : List ℕ
  pub whole : c ∷ w ++ next ≡ cs
  pub same : t ≡ token kind (bytes (c ∷ w))
  pub is : IsTokenIn edition next kind (c ∷ w)

abbrev Fronts : Edition → List ℕ → TokenKind → ℕ → List ℕ → Type 0
Fronts edition next kind c w =
    Front edition (c ∷ w ++ next) (changed edition (c ∷ w ++ next) (token kind (bytes (c ∷ w))))

front-is : {edition : Edition} {cs : List ℕ} {t : Token} (kind : TokenKind) (c : ℕ) (w next : List ℕ)
    → c ∷ w ++ next ≡ cs → t ≡ token kind (bytes (c ∷ w)) → IsTokenIn edition next kind (c ∷ w) → Front edition cs t
front-is kind c w next whole same is =
    record { kind = kind; c = c; w = w; next = next; whole = whole; same = same; is = is }

keep : (edition : Edition) (next : List ℕ) (kind : TokenKind) (c : ℕ) (w : List ℕ) → lexed_since kind ≤ year edition
    → IsTokenBefore next kind (c ∷ w) → Fronts edition next kind c w
keep edition next kind c w le p = front-is kind c w next refl (keeps edition (c ∷ w ++ next) kind (bytes (c ∷ w)) le)
    (kept le p)

goes-name : (w next : List ℕ) → is_ident w ≡ true → begins_ident_after (codes "#") (35 ∷ w ++ next) ≡ true
goes-name w next w2 = grind (arith, common_steps, and_parts)

-- A proof can distinguish the order of two years.
by_year : {A : Type 0} (a b : ℕ) → (a ≤ b → A) → (b < a → A) → A
by_year {A} a b le lt = grind (arith, common_steps, leb-true, leb-false)

fronts : {next : List ℕ} {kind : TokenKind} {c : ℕ} {w : List ℕ} (edition : Edition) → View next kind (c ∷ w)
    → IsTokenBefore next kind (c ∷ w) → Fronts edition next kind c w
fronts {next} {kind} {c} {w} edition (other old) p = keep edition next kind c w (let le = oldest edition in
    omega (arith, old)) p
fronts {next} edition (cut_hash {c}) p =
    by_year 2024 (year edition) (λ le. keep edition next GuardedStrPrefix 35 (c ∷ []) le p)
    (λ lt. front-is Pound 35 [] (c ∷ next) refl (guarded-cut edition (35 ∷ c ∷ next) (bytes (35 ∷ c ∷ [])) lt
    ∙ ap (token Pound) (sym hash-one)) (pound lt))
fronts {next} edition (cut_raw {w} is) p =
    by_year 2021 (year edition) (λ le. keep edition next RawLifetime 39 (114 ∷ 35 ∷ w) le p)
    (λ lt. front-is (Lifetime false) 39 (114 ∷ []) (35 ∷ w ++ next) refl
    (before edition (39 ∷ 114 ∷ 35 ∷ w ++ next) (token RawLifetime (bytes (39 ∷ 114 ∷ 35 ∷ w))) lt
    ∙ ap (token (Lifetime false)) (sym r-two)) (lifetime_r lt (goes-name w next is)))
fronts {next} edition (name {c} {w} start all hash) p =
    by_year 2021 (year edition) (λ le. keep edition next UnknownPrefixLifetime 39 (c ∷ w) le p)
    (λ lt. front-is (Lifetime (is_bad_name (c ∷ w))) 39 (c ∷ w) next refl
    (before edition (39 ∷ c ∷ w ++ next) (token UnknownPrefixLifetime (bytes (39 ∷ c ∷ w))) lt
    ∙ ap (λ (b : Bool). token (Lifetime b) (bytes (39 ∷ c ∷ w))) (name-bad c w next all hash)) (lifetime lt p))
fronts {next} {kind} {c} {w} edition prefix p =
    by_year 2021 (year edition) (λ le. keep edition next UnknownPrefix c w le p)
    (λ lt. front-is Ident c w next refl (before edition (c ∷ w ++ next) (token UnknownPrefix (bytes (c ∷ w))) lt)
    (ident lt p))

pub first-front : (edition : Edition) (text cs : List ℕ) → IsText text → 0 < length text → chars text ≡ cs
    → Front edition (chars text) (first_token_in edition text)
unfolding first_token
first-front edition text [] is some e = absurd (omega (arith, ap length (empty-text text is e)))
first-front edition text (c ∷ s) is some e =
    let m : ℕ = (past_first c s).1 in
    let p : IsTokenBefore (drop m s) (past_first c s).0 (c ∷ take m s) = lexeme-sound (c ∷ s) in
    let there : Fronts edition (drop m s) (past_first c s).0 c (take m s) = fronts edition (view p) p in
    let here : Front edition (c ∷ s) (changed edition (c ∷ s) (token (past_first c s).0 (bytes (c ∷ take m s)))) =
    subst (λ (u : List ℕ). Front edition (c ∷ u)
    (changed edition (c ∷ u) (token (past_first c s).0 (bytes (c ∷ take m s))))) (take-append-drop m s) there in
    subst (λ (cs : List ℕ). Front edition cs (changed edition cs (token (lexeme cs).0 (bytes_of (lexeme cs).1 cs))))
    (sym e) here

-- ---- the newest edition has the tokens of the grammar

pub in_grammar : {edition : Edition} {next : List ℕ} {kind : TokenKind} {w : List ℕ} → edition ≡ newest
    → IsTokenIn edition next kind w → IsTokenBefore next kind w
in_grammar is w1 = grind (arith, common_steps)

pub of_grammar : {edition : Edition} {next : List ℕ} {kind : TokenKind} {w : List ℕ} → edition ≡ newest
    → IsTokenBefore next kind w → IsTokenIn edition next kind w
of_grammar {edition} {next} {kind} is p =
    kept (subst (λ (x : Edition). lexed_since kind ≤ year x) (sym is) (grind (arith, common_steps))) p

pub newest_has : (next w : List ℕ) (kind : TokenKind) → IsTokenIn newest next kind w ↔ IsTokenBefore next kind w
newest_has next w kind = (in_grammar refl, of_grammar refl)
