-- Shebang lines: the model finds exactly the line that the language defines.
use Rattle.std.proofs.Common.{◌≡◌, ◌↔◌, ℕ, suc, ◌+◌, ◌==◌, ◌&&◌, ◌||◌, not, Bool, true, false, true≢false}
use Rattle.std.proofs.Common.{if◌then◌else◌, List, [], ◌∷◌, ◌++◌, length, get_or, take, drop, codes, refl, sym, ap, ◌∙◌}
use Rattle.std.proofs.Common.{subst, arith, length-append, Option, Some, None}
use lib.Utf8.{encode}
use Rattle.std.proofs.lemmas.{Bool.{and_parts, eqb-true, not-true}, Str.{IsUtf8-drop, IsCharBoundary-from_take}}
use Rattle.std.specs.{List.{list_all, Contains}, Str.{chars, encode_utf8_all, IsUtf8}}
use Rattle.std.proofs.{Math.Bool.{and-false}, lemmas.Grind.{common_steps}}
use Rattle.unicode_ident.proofs.Computing.{unicode_ident}
use Rattle.rustc_lexer.specs.{Token, TokenKind, LineComment, BlockComment, Whitespace, OpenBracket}
use Rattle.rustc_lexer.specs.LanguageText.{AreTokens, newest, nothing, part, something}
use Rattle.rustc_lexer.specs.Partition.{tokens_by}
use Rattle.rustc_lexer.specs.Tables.{is_emoji, emoji_ranges}
use Rattle.rustc_lexer.specs.Language as grammar
use Rattle.rustc_lexer.specs.Language.{has_rule, IsTokenBefore}
use Rattle.rustc_lexer.specs.LanguageCalls as the
use Rattle.rustc_lexer.specs.LanguageCalls.{IsAttributeRest, IsLineBefore, IsShebang}
use Rattle.rustc_lexer.specs.model.Lexeme.{first_token, symbols, kind_among}
use Rattle.rustc_lexer.specs.model.Scan.{begins}
use Rattle.rustc_lexer.specs.model.Shebang.{is_passed, is_open_bracket, is_attribute, line_len, shebang_past}
use Rattle.rustc_lexer.specs.model.Shebang.{read_shebang}
use Rattle.rustc_lexer.specs.Classes.{AreAll, bytes, is_inline, IsText}
use Rattle.rustc_lexer.specs.laws.Choice.{by_either}
use Rattle.rustc_lexer.specs.laws.Fences.{begins-whole}
use Rattle.rustc_lexer.specs.laws.LanguageFront.{split}
use Rattle.rustc_lexer.specs.laws.LanguageIn.{in_grammar, of_grammar}
use Rattle.rustc_lexer.specs.laws.LanguageTokens.{tokens-are, tokens-read}
use Rattle.rustc_lexer.specs.laws.Texts.{left_text}

-- ---- an attribute

abbrev ts : List ℕ → List Token
ts text = tokens_by first_token text

abbrev has_bracket : TokenKind → List Token → Bool
has_bracket kind tokens = if is_passed kind then is_attribute tokens else is_open_bracket kind

-- If a text starts with a token, its other tokens are the tokens of the rest.
first-step : (text : List ℕ) (kind : TokenKind) (c : ℕ) (w next : List ℕ) → IsText text → chars text ≡ c ∷ w ++ next
    → IsTokenBefore next kind (c ∷ w)
    → (left : List ℕ) × IsText left × (chars left ≡ next) × (is_attribute (ts text) ≡ has_bracket kind (ts left))
first-step text kind c w next is e p =
    let parts = split text (c ∷ w) next is e in
    let left : List ℕ = encode_utf8_all next in
    let left_is : IsText left =
    subst IsText parts.left
    (left_text text (bytes (c ∷ w)) is parts.inside (subst IsUtf8 (sym parts.front) parts.front_utf8)) in
    let rest : AreTokens (part newest) next (ts left) =
    subst (λ cs. AreTokens (part newest) cs (ts left)) parts.again (tokens-are left (part newest) left_is) in
    let all : AreTokens (part newest) (c ∷ w ++ next) (record { kind = kind; len = bytes (c ∷ w) } ∷ ts left) =
    something (of_grammar refl p) (λ y. absurd (true≢false (sym y))) rest in
    (left, left_is, parts.again, ap is_attribute (tokens-read all text is e))

bracket-alone : has_rule 91 ≡ false
unfolding unicode_ident is_emoji emoji_ranges
bracket-alone = refl

abbrev passed_kinds : List TokenKind
passed_kinds = Whitespace ∷ LineComment None ∷ BlockComment None true ∷ BlockComment None false ∷ []

passes : (kind : TokenKind) → Contains passed_kinds kind → is_passed kind ≡ true
passes kind w0 = grind (arith, common_steps)

attribute-read : {cs : List ℕ} → IsAttributeRest cs → (text : List ℕ) → IsText text → chars text ≡ cs
    → is_attribute (ts text) ≡ true
attribute-read (the.bracket next) text is e =
    (first-step text OpenBracket 91 [] next is e (grammar.symbol {c = 91} bracket-alone)).3
attribute-read (the.passed {kind} {c} {w} {next} among p rest) text is e =
    let f = first-step text kind c w next is e p in
    f.3 ∙ (ap (λ (b : Bool). if b then is_attribute (ts f.0) else is_open_bracket kind) (passes kind among)
    ∙ attribute-read rest f.0 f.1 f.2)

-- An opening bracket is the only symbol of its kind.
among-bracket : (ss : List (ℕ × TokenKind)) (c : ℕ) → list_all (λ s. not (is_open_bracket s.1) || (s.0 == 91)) ss ≡ true
    → is_open_bracket (kind_among ss c) ≡ true → c ≡ 91
among-bracket [] c all e = absurd (true≢false (sym e))
among-bracket (s ∷ ss) c all e =
    grind (
      arith,
      common_steps,
      and_parts,
      eqb-true,
      among-bracket ss c
          (and_parts (not (is_open_bracket s.1) || (s.0 == 91)) (list_all (λ s. not (is_open_bracket s.1) || (s.0 == 91)) ss)
          all).1,
    )

bracket-view : {next : List ℕ} {kind : TokenKind} {w : List ℕ} → IsTokenBefore next kind w → is_open_bracket kind ≡ true
    → w ≡ 91 ∷ []
bracket-view (grammar.symbol {c} is) e = ap (λ (x : ℕ). x ∷ []) (among-bracket symbols c refl e)
bracket-view other e = absurd (true≢false (sym e))

-- A text is the rest of an attribute if its first token is a bracket, or a token that can be skipped before such a
-- rest.
attribute-first : (kind : TokenKind) (c : ℕ) (w next : List ℕ) (tokens : List Token) → IsTokenBefore next kind (c ∷ w)
    → has_bracket kind tokens ≡ true → (is_attribute tokens ≡ true → IsAttributeRest next)
    → IsAttributeRest (c ∷ w ++ next)
attribute-first Whitespace c w next tokens p e rest = the.passed (0, omega arith, refl) p (rest e)
attribute-first (LineComment None) c w next tokens p e rest = the.passed (1, omega arith, refl) p (rest e)
attribute-first (LineComment (Some style)) c w next tokens p e rest = absurd (true≢false (sym e))
attribute-first (BlockComment None true) c w next tokens p e rest = the.passed (2, omega arith, refl) p (rest e)
attribute-first (BlockComment None false) c w next tokens p e rest = the.passed (3, omega arith, refl) p (rest e)
attribute-first (BlockComment (Some style) terminated) c w next tokens p e rest = absurd (true≢false (sym e))
attribute-first OpenBracket c w next tokens p e rest =
    subst (λ (v : List ℕ). IsAttributeRest (v ++ next)) (sym (bracket-view p refl)) (the.bracket next)
attribute-first kind c w next tokens p e rest = absurd (true≢false (sym e))

attribute-of : {cs : List ℕ} {tokens : List Token} → AreTokens (part newest) cs tokens → is_attribute tokens ≡ true
    → IsAttributeRest cs
attribute-of nothing t = absurd (true≢false (sym t))
attribute-of (something {kind} {c} {w} {next} {tokens} p free rest) t =
    attribute-first kind c w next tokens (in_grammar refl p) t (attribute-of rest)

attribute-is : (text : List ℕ) → IsText text → is_attribute (ts text) ≡ true → IsAttributeRest (chars text)
attribute-is text is = attribute-of (tokens-are text (part newest) is)

-- ---- a line

-- A line ends where the text after it ends it, if the end does not split a CR LF.
line_len-here : (w next : List ℕ) → AreAll is_inline w → line_len next ≡ 0
    → ((u : List ℕ) → w ≡ u ++ 13 ∷ [] → begins (codes "\n") next ≡ false)
    → line_len (w ++ next) ≡ length w
line_len-here [] next all ends free = ends
line_len-here (c ∷ []) next all ends free = let inline = and_parts (is_inline c) true all in by_either (c == 13)
    (λ e. rw (not-true (c == 10) inline.0, free [] (ap (λ x. x ∷ []) (eqb-true c 13 e)), and-false (c == 13), ends)
    refl)
    (λ e. rw (not-true (c == 10) inline.0, e, ends) refl)
line_len-here (c ∷ d ∷ w) next all ends free =
    let parts = and_parts (is_inline c) (list_all is_inline (d ∷ w)) all in
    let none : begins (codes "\r\n") (c ∷ d ∷ w ++ next) ≡ false =
    rw (not-true (d == 10) (and_parts (is_inline d) (list_all is_inline w) parts.1).0) (and-false (c == 13)) in
    rw (not-true (c == 10) parts.0, none)
    (ap suc (line_len-here (d ∷ w) next parts.1 ends (λ u e. free (c ∷ u) (ap (λ xs. c ∷ xs) e))))

pub line-read : {next w : List ℕ} → IsLineBefore next w → line_len (w ++ next) ≡ length w
line-read {next} {w} (the.to_newline all n none) =
    line_len-here w next all (grind (arith, common_steps)) (λ u e. absurd (none u e))
line-read {next} {w} (the.to_return all r) =
    line_len-here w next all (grind (arith, common_steps)) (λ u e. grind (arith, common_steps, and_parts, eqb-true))
line-read {next} {w} (the.to_end all none) =
    line_len-here w next all (ap line_len none) (λ u e. ap (begins (codes "\n")) none)

record HasLine (text : List ℕ) : Type 0 where
  w : List ℕ
  next : List ℕ
  whole : w ++ next ≡ text
  is : IsLineBefore next w

-- One more character, which is neither a newline nor the start of the line ending, makes the line longer.
longer : (c : ℕ) (w next : List ℕ) → (c == 10) ≡ false → begins (codes "\r\n") (c ∷ w ++ next) ≡ false
    → IsLineBefore next w → IsLineBefore next (c ∷ w)
longer c w next e f (the.to_newline all n free) = the.to_newline (rw e all) n (no_return w f free)
  where
    no_return : (w : List ℕ) → begins (codes "\r\n") (c ∷ w ++ next) ≡ false → ((u : List ℕ) → w ≡ u ++ 13 ∷ [] → ⊥)
        → (u : List ℕ) → c ∷ w ≡ u ++ 13 ∷ [] → ⊥
    no_return [] f free [] g =
        true≢false (sym (ap (λ (x : ℕ). (x == 13) && begins (codes "\n") next) (ap (λ (xs : List ℕ). get_or xs 0 0) g)
        ∙ n) ∙ f)
    no_return (d ∷ w) f free [] g = absurd (let free : suc (suc (length w)) ≡ 1 = ap length g in omega (arith, free))
    no_return w f free (x ∷ u) g = free u (ap (drop 1) g)
longer c w next e f (the.to_return all n) = the.to_return (rw e all) n
longer c w next e f (the.to_end all none) = the.to_end (rw e all) none

has-line : (text : List ℕ) → HasLine text
has-line [] = record { w = []; next = []; whole = refl; is = the.to_end refl refl }
has-line (c ∷ s) = by_either (c == 10)
    (λ e.
    let none : (u : List ℕ) → [] ≡ u ++ 13 ∷ [] → ⊥ =
    λ u f. absurd (let free = ap (λ (x : List ℕ). length x) f in omega (arith, free, length-append u (13 ∷ []))) in
    record { w = []; next = c ∷ s; whole = refl; is = the.to_newline refl (rw e refl) none })
    (λ e. by_either (begins (codes "\r\n") (c ∷ s))
    (λ f. record { w = []; next = c ∷ s; whole = refl; is = the.to_return refl f })
    (λ f.
    let ih = has-line s in
    let stands : begins (codes "\r\n") (c ∷ ih.w ++ ih.next) ≡ false =
    ap (λ (x : List ℕ). begins (codes "\r\n") (c ∷ x)) ih.whole ∙ f in
    record {
      w = c ∷ ih.w;
      next = ih.next;
      whole = ap (λ (x : List ℕ). c ∷ x) ih.whole;
      is = longer c ih.w ih.next e stands ih.is;
    }))

-- ---- the result

pub hash_bang-utf8 : IsUtf8 (35 ∷ 33 ∷ [])
unfolding encode
hash_bang-utf8 = (35 ∷ 33 ∷ [], (refl, refl))

tail-text : (text rest : List ℕ) → IsText text → text ≡ 35 ∷ 33 ∷ rest → IsText rest
tail-text text rest is e = record {
  utf8 = subst IsUtf8 (ap (drop 2) e)
      (IsUtf8-drop text 2 is.utf8
      (IsCharBoundary-from_take text 2 is.utf8 (omega (arith, ap length e))
      (subst IsUtf8 (sym (ap (take 2) e)) hash_bang-utf8)));
  fits = let f = is.fits in omega (arith, ap length e);
}

past-hash_bang : (text rest : List ℕ) → text ≡ 35 ∷ 33 ∷ rest
    → read_shebang text ≡ (if is_attribute (ts rest) then None else Some (2 + line_len rest))
unfolding read_shebang
past-hash_bang text rest e = ap read_shebang e

pub no-hash_bang : (text : List ℕ) → begins (codes "#!") text ≡ false → read_shebang text ≡ None
unfolding read_shebang
no-hash_bang text e = ap (λ (b : Bool). if b then shebang_past (drop 2 text) else None) e

answer-read : {text : List ℕ} {r : Option ℕ} → IsText text → IsShebang text r → r ≡ read_shebang text
answer-read {text} is (the.shebang w next e free line) =
    sym (past-hash_bang text (w ++ next) e
    ∙ (by_attribute (is_attribute (ts (w ++ next))) refl ∙ ap (λ (k : ℕ). Some (2 + k)) (line-read line)
    ∙ ap Some (two (length w))))
  where
    two : (k : ℕ) → 2 + k ≡ suc (suc k)
    two k = omega arith

    by_attribute : (b : Bool) → is_attribute (ts (w ++ next)) ≡ b
        → (if is_attribute (ts (w ++ next)) then None else Some (2 + line_len (w ++ next))) ≡
        Some (2 + line_len (w ++ next))
    by_attribute true f = absurd (free (attribute-is (w ++ next) (tail-text text (w ++ next) is e) f))
    by_attribute false f = rw f refl
answer-read {text} is (the.none free) = by_either (begins (codes "#!") text)
    (λ e.
    let rest : List ℕ = drop 2 text in
    let begun : text ≡ 35 ∷ 33 ∷ rest = begins-whole (codes "#!") text e in
    sym (past-hash_bang text rest begun
    ∙ ap (λ (b : Bool). let r : Option ℕ = if b then None else Some (2 + line_len rest) in
    r) (attribute-read (free rest begun) rest (tail-text text rest is begun) refl)))
    (λ e. sym (no-hash_bang text e))

record HasShebang (text : List ℕ) : Type 0 where
  answer : Option ℕ
  is : IsShebang text answer

has-shebang : (text : List ℕ) → IsText text → HasShebang text
has-shebang text is = by_either (begins (codes "#!") text)
    (λ e. past (drop 2 text) (begins-whole (codes "#!") text e))
    (λ e. record {
      answer = None;
      is = the.none (λ rest f. absurd (true≢false (sym (ap (begins (codes "#!")) f) ∙ e)));
    })
  where
    past : (rest : List ℕ) → text ≡ 35 ∷ 33 ∷ rest → HasShebang text
    past rest e = by_either (is_attribute (ts rest))
        (λ f.
        let attribute : IsAttributeRest (chars rest) = attribute-is rest (tail-text text rest is e) f in
        record {
          answer = None;
          is = the.none (λ other g. subst (λ r. IsAttributeRest (chars r)) (ap (drop 2) (sym e ∙ g)) attribute);
        })
        (λ f.
        let l = has-line rest in
        let whole : text ≡ 35 ∷ 33 ∷ (l.w ++ l.next) = e ∙ ap (λ (x : List ℕ). 35 ∷ 33 ∷ x) (sym l.whole) in
        record {
          answer = _;
          is = the.shebang l.w l.next whole
              (λ a. true≢false (sym (attribute-read a (l.w ++ l.next) (tail-text text (l.w ++ l.next) is whole) refl)
              ∙ (ap (λ (x : List ℕ). is_attribute (ts x)) l.whole ∙ f))) l.is;
        })

-- The model's result is the only one.
pub shebang-answer : (text : List ℕ) → IsText text → (other : Option ℕ) → IsShebang text other
    ↔ (other ≡ read_shebang text)
shebang-answer text is other = (
  λ s. answer-read is s,
  λ e. let h = has-shebang text is in
      subst (IsShebang text) (answer-read is h.is ∙ sym e) h.is,
)
