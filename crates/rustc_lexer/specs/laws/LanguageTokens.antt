-- The tokens of a text are the only list of tokens that the language allows.
use Rattle.std.proofs.Common.{◌≡◌, ◌↔◌, ℕ, ◌+◌, ◌<◌, ◌≤◌, not, codes, append_assoc, Bool, true, false, List, [], ◌∷◌}
use Rattle.std.proofs.Common.{◌++◌, length, take, drop, refl, sym, ap, ◌∙◌, subst, arith, length-append}
use Rattle.std.proofs.{Math.Seq.{take-append_seam, drop-append_seam}, lemmas.Str.{chars-nil}}
use Rattle.std.specs.Str.{chars, encode_utf8_all}
use Rattle.std.proofs.lemmas.Grind.{common_steps}
use Rattle.rustc_lexer.specs.{Edition, Token, TokenKind, Frontmatter}
use Rattle.rustc_lexer.specs.Classes.{is_among, is_whitespace, bytes, IsText}
use Rattle.rustc_lexer.specs.model.Tokens.{read_tokens}
use Rattle.rustc_lexer.specs.model.Edition.{token, first_token_in}
use Rattle.rustc_lexer.specs.model.Frontmatter.{is_newline, fence_len, opening_len, opens, closing_end, past_opening}
use Rattle.rustc_lexer.specs.model.Frontmatter.{frontmatter}
use Rattle.rustc_lexer.specs.laws.LanguageClosing.{body-at, body-read, endings-patterns}
use Rattle.rustc_lexer.specs.laws.LanguageFrontmatter.{fence-length, opening-read, Opened, opened, opens-none}
use Rattle.rustc_lexer.specs.laws.LanguageFrontmatter.{none-opens}
use Rattle.rustc_lexer.specs.laws.LanguageLiterals.{bytes-append}
use Rattle.rustc_lexer.specs.FrontmatterGrammar.{fence, IsOpeningBefore, opening}
use Rattle.rustc_lexer.specs.LanguageText.{IsTokenIn, Mode, is_source, source, part, mode_edition, mode_after}
use Rattle.rustc_lexer.specs.LanguageText.{AreTokens, nothing, something, frontmatter_first}
use Rattle.rustc_lexer.specs.model.Scan.{bytes_of, next_is, past}
use Rattle.rustc_lexer.specs.model.Taking.{token_at}
use Rattle.rustc_lexer.specs.laws.LanguageIn.{token-read-in, first-front}
use Rattle.rustc_lexer.specs.laws.LanguageFront.{empty-text, split}
use Rattle.rustc_lexer.specs.laws.Tokens.{token_at-cuts, by_tokens, tokens-nil, tokens-cons}

-- ---- a list that the language allows is the list of tokens

pub at-first : (mode : Mode) (text : List ℕ) → (is_source mode ≡ true → opens (chars text) ≡ false)
    → token_at mode text ≡ first_token_in (mode_edition mode) text
at-first mode text w2 = grind (arith, common_steps)

at-frontmatter : (edition : Edition) (text : List ℕ) → opens (chars text) ≡ true → token_at (source edition) text ≡
    frontmatter text
at-frontmatter edition text e = rw e refl

after-frontmatter : (edition : Edition) (text : List ℕ) → mode_after (source edition) (frontmatter text).kind ≡
    part edition
unfolding frontmatter
after-frontmatter edition text = refl

opening-some : {next w : List ℕ} {n : ℕ} {bad_label : Bool} → IsOpeningBefore next n bad_label w → 1 ≤ length w
opening-some (opening n space label spaces no_line many is stop) =
    omega (arith, length-append space (fence n ++ label), length-append (fence n) label, fence-length n)

newline-same : (s : List ℕ) → next_is is_newline s ≡ next_is (is_among (codes "\n")) s
newline-same w0 = grind (arith, common_steps)

-- A text that starts with an opening has this frontmatter.
frontmatter-is : (text : List ℕ) (n : ℕ) (bad_label : Bool) (front rest : List ℕ) → IsText text
    → chars text ≡ front ++ rest → IsOpeningBefore rest n bad_label front
    → frontmatter text ≡
    record {
      kind = Frontmatter (next_is is_whitespace front) bad_label;
      len = bytes front + closing_end n (encode_utf8_all rest);
    }
unfolding frontmatter past_opening past
frontmatter-is text n bad_label front rest is e is_opening =
    let r = opening-read is_opening in
    let parts = split text front rest is e in
    let len : opening_len (chars text) ≡ length front = ap opening_len e ∙ r.len in
    let past_is : past_opening text ≡ encode_utf8_all rest = ap (λ (k : ℕ). encode_utf8_all (drop k (chars text))) len
    ∙ ap encode_utf8_all (ap (drop (length front)) e ∙ drop-append_seam front rest) in
    let size : bytes_of (opening_len (chars text)) (chars text) ≡ bytes front =
    ap (λ (k : ℕ). bytes_of k (chars text)) len
    ∙ ap bytes (ap (take (length front)) e ∙ take-append_seam front rest) in
    let count : fence_len (chars text) ≡ n = ap fence_len e ∙ r.dashes in
    let space : next_is is_whitespace (chars text) ≡ next_is is_whitespace front = ap (next_is is_whitespace) e
    ∙ r.space in
    let line : not (next_is is_newline (chars (past_opening text))) ≡ bad_label =
    ap not (ap (next_is is_newline) (ap chars past_is ∙ parts.again) ∙ newline-same rest) ∙ r.line in
    let closes : closing_end (fence_len (chars text)) (past_opening text) ≡ closing_end n (encode_utf8_all rest) =
    ap (λ (k : ℕ). closing_end k (past_opening text)) count ∙ ap (closing_end n) past_is in
    cc (space, line, size, closes)

-- One more token in front is read before the tokens of the rest.
step : (mode : Mode) (text w next : List ℕ) (token : Token) (tokens : List Token) → IsText text → 0 < length w
    → chars text ≡ w ++ next → token_at mode text ≡ token → token.len ≡ bytes w
    → ((u : List ℕ) → IsText u → chars u ≡ next → read_tokens (mode_after mode token.kind) u ≡ tokens)
    → read_tokens mode text ≡ token ∷ tokens
step mode text w next token tokens is lt e f len rest =
    grind (
      arith,
      common_steps,
      split text w next is e,
      token_at-cuts mode text is ((split text w next is e).some lt),
      f,
      len,
      (split text w next is e).left,
      (ap (λ (t : Token). drop t.len text) f ∙ (ap (λ (n : ℕ). drop n text) len ∙ (split text w next is e).left)),
      (token_at-cuts mode text is ((split text w next is e).some lt)).left,
      tokens-cons mode text is ((split text w next is e).some lt),
      rest,
    )

pub tokens-read : {mode : Mode} {cs : List ℕ} {tokens : List Token} → AreTokens mode cs tokens → (text : List ℕ)
    → IsText text → chars text ≡ cs → read_tokens mode text ≡ tokens
tokens-read (nothing {mode}) text is e = ap (λ u. read_tokens mode u) (empty-text text is e) ∙ tokens-nil mode
tokens-read (something {mode} {kind} {c} {w} {next} {tokens} p free rest) text is e =
    step mode text (c ∷ w) next (token kind (bytes (c ∷ w))) tokens is (omega arith) e
    (at-first mode text (λ y. ap opens e ∙ none-opens (c ∷ w ++ next) (free y)) ∙ token-read-in p text e) refl
    (λ u text_u f. tokens-read rest u text_u f)
tokens-read (frontmatter_first {edition} {n} {bad_label} {opening = front} {next} {tokens} body is_opening is_end rest)
    text is e =
    let len : bytes body ≡ closing_end n (encode_utf8_all (body ++ next)) = sym (body-read n is_end) in
    let r = opening-read is_opening in
    let token : Token =
    record { kind = Frontmatter (next_is is_whitespace front) bad_label; len = bytes front + bytes body } in
    let whole : chars text ≡ (front ++ body) ++ next = e ∙ sym (append_assoc front body next) in
    let same : frontmatter text ≡ token = frontmatter-is text n bad_label front (body ++ next) is e is_opening
    ∙ ap (λ (k : ℕ). let t : Token = record {
      kind = Frontmatter (next_is is_whitespace front) bad_label;
      len = bytes front + k;
    } in t) (sym len) in
    step (source edition) text (front ++ body) next token tokens is
    (omega (arith, opening-some is_opening, length-append front body)) whole
    (at-frontmatter edition text (ap opens e ∙ r.opens_here) ∙ same) (sym (bytes-append front body))
    (λ u text_u f. tokens-read rest u text_u f)

-- ---- the list of tokens is allowed

-- Holds if the language allows the token before the tokens of the rest, provided that it allows these.
abbrev Puts : Mode → List ℕ → Token → Type 0
Puts mode text t =
    AreTokens (mode_after mode t.kind) (chars (drop t.len text))
    (read_tokens (mode_after mode t.kind) (drop t.len text))
    → AreTokens mode (chars text) (t ∷ read_tokens (mode_after mode t.kind) (drop t.len text))

-- A token of the characters can be put before the tokens of the text after it.
put : (mode : Mode) (text : List ℕ) (kind : TokenKind) (c : ℕ) (w next : List ℕ) → IsText text
    → c ∷ w ++ next ≡ chars text → IsTokenIn (mode_edition mode) next kind (c ∷ w)
    → (is_source mode ≡ true → opens (chars text) ≡ false) → Puts mode text (token kind (bytes (c ∷ w)))
put mode text kind c w next is whole p free rest =
    grind (
      arith,
      common_steps,
      split text (c ∷ w) next is (sym whole),
      (split text (c ∷ w) next is (sym whole)).left,
      (split text (c ∷ w) next is (sym whole)).again,
      rest,
      whole,
      something,
      opens-none,
    )

lexeme-first : (mode : Mode) (text : List ℕ) → IsText text → 0 < length text
    → (is_source mode ≡ true → opens (chars text) ≡ false) → Puts mode text (token_at mode text)
lexeme-first mode text is some free =
    grind (
      arith,
      common_steps,
      first-front (mode_edition mode) text (chars text) is some refl,
      at-first mode text free,
      (first-front (mode_edition mode) text (chars text) is some refl).same,
      put,
    )

frontmatter-first : (edition : Edition) (text : List ℕ) → IsText text → 0 < length text → opens (chars text) ≡ true
    → Puts (source edition) text (frontmatter text)
frontmatter-first edition text is some opened_here rest_are = put (opened (chars text) opened_here)
  where
    tokens : List Token
    tokens = read_tokens (mode_after (source edition) (frontmatter text).kind) (drop (frontmatter text).len text)

    put : Opened (chars text) → AreTokens (source edition) (chars text) (frontmatter text ∷ tokens)
    put o =
        let n : ℕ = o.count in
        let b = body-at _ o.rest (endings-patterns n) in
        let body : List ℕ = b.body in
        let next : List ℕ = b.next in
        let bad_label : Bool = not (next_is (is_among (codes "\n")) o.rest) in
        let is_opening : IsOpeningBefore (body ++ next) n bad_label o.front =
        subst (λ (u : List ℕ). IsOpeningBefore u n bad_label o.front) (sym b.whole) o.is in
        let whole : o.front ++ (body ++ next) ≡ chars text = ap (λ (u : List ℕ). o.front ++ u) b.whole ∙ o.whole in
        let parts = split text (o.front ++ body) next is (sym (append_assoc o.front body next ∙ whole)) in
        let same : frontmatter text ≡
        record { kind = Frontmatter (next_is is_whitespace o.front) bad_label; len = bytes o.front + bytes body } =
        frontmatter-is text n bad_label o.front (body ++ next) is (sym whole) is_opening
        ∙ ap (λ (k : ℕ). let t : Token = record {
          kind = Frontmatter (next_is is_whitespace o.front) bad_label;
          len = bytes o.front + k;
        } in t) (body-read n b.is) in
        let cut : drop (frontmatter text).len text ≡ encode_utf8_all next = ap (λ (t : Token). drop t.len text) same
        ∙ (ap (λ (k : ℕ). drop k text) (sym (bytes-append o.front body)) ∙ parts.left) in
        let rest_is : AreTokens (part edition) next tokens =
        subst (λ (cs : List ℕ). AreTokens (part edition) cs tokens) (ap chars cut ∙ parts.again)
        (subst (λ (mode : Mode). AreTokens mode (chars (drop (frontmatter text).len text)) tokens)
        (after-frontmatter edition text) rest_are) in
        subst (λ (cs : List ℕ). AreTokens (source edition) cs (frontmatter text ∷ tokens)) whole
        (subst (λ (t : Token). AreTokens (source edition) (o.front ++ (body ++ next)) (t ∷ tokens)) (sym same)
        (frontmatter_first body is_opening b.is rest_is))

puts : (mode : Mode) (text : List ℕ) → IsText text → 0 < length text → Puts mode text (token_at mode text)
puts w0 text is some = grind (arith, common_steps, lexeme-first, at-frontmatter, frontmatter-first)

abbrev pub AreOf : List ℕ → Mode → Type 0
AreOf text mode = AreTokens mode (chars text) (read_tokens mode text)

pub tokens-are : (text : List ℕ) (mode : Mode) → IsText text → AreOf text mode
tokens-are = by_tokens AreOf
    (λ mode. rw (tokens-nil mode) (subst (λ (cs : List ℕ). AreTokens mode cs []) (sym chars-nil) nothing))
    (λ text mode is some rest. rw (tokens-cons mode text is some) (puts mode text is some rest))

-- The model's tokens are the only ones.
pub language : (text : List ℕ) (mode : Mode) → IsText text → (tokens : List Token) → AreTokens mode (chars text) tokens
    ↔ (tokens ≡ read_tokens mode text)
language text mode is tokens = (
  λ are. sym (tokens-read are text is refl),
  λ e. subst (AreTokens mode (chars text)) (sym e)
      (tokens-are text mode is),
)
