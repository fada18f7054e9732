-- A text without open tokens keeps them before whitespace, and whitespace keeps its token before any other character.
use Rattle.std.proofs.lemmas.Grind.{common_steps}
use Rattle.std.proofs.Common.{◌⊎◌, inl, inr, ◌≡◌, ℕ, ◌+◌, ◌^◌, ◌<◌, Bool, true, false, true≢false, List, [], ◌∷◌, ◌++◌}
use Rattle.std.proofs.Common.{length, refl, sym, ap, ◌∙◌, subst, arith, append_assoc, length-append, chars, IsUtf8}
use Rattle.std.proofs.Math.Seq.{drop-append_seam, take-append_seam}
use Rattle.std.specs.List.{list_all}
use Rattle.std.proofs.lemmas.{List.{append-nil}, Str.{IsUtf8-append, chars-append, chars-encodes}}
use lib.Utf8.{encode, scalars}
use Rattle.std.specs.Str.{encode_utf8_all}
use Rattle.rustc_lexer.specs.{Edition, Token, TokenKind, Whitespace}
use Rattle.rustc_lexer.specs.Classes.{AreAll, IsText, NextIs, NextIsNot, bytes, is_whitespace}
use Rattle.rustc_lexer.specs.Joined.{AreWellFormed, IsSeparated, MayTouch, RunsOn, is_malformed, AreInseparable}
use Rattle.rustc_lexer.specs.Joined.{WhiteSpaceSeparates, last_takes_in, takes_in}
use Rattle.rustc_lexer.specs.Partition.{tokens_by}
use Rattle.rustc_lexer.specs.Language as the
use Rattle.rustc_lexer.specs.Language.{IsTokenBefore}
use Rattle.rustc_lexer.specs.LanguageText as grammar
use Rattle.rustc_lexer.specs.LanguageText.{AreTokens, IsTokenIn, Mode, kept, lexed_since, mode_after, mode_edition}
use Rattle.rustc_lexer.specs.LanguageText.{part, year}
use Rattle.rustc_lexer.specs.{laws.Choice.{by_symbol}}
use Rattle.std.proofs.lemmas.Bool.{and_parts, not-true}
use Rattle.rustc_lexer.specs.laws.{Cuts.{tokens-nil}, LanguageFront.{empty-text}, LanguageIn.{oldest}}
use Rattle.rustc_lexer.specs.laws.{LanguageTokens.{tokens-are, tokens-read}, Texts.{left_text}}
use Rattle.rustc_lexer.specs.model.Edition.{first_token_in}
use Rattle.rustc_lexer.proofs.lemmas.joined.Apart.{Changes, here as changed, Goes, changes-past, in-apart}

-- Holds if these are the tokens of the characters, lexed as a fragment.
data Are (edition : Edition) : List ℕ → List Token → Type 0 where
  none : Are edition [] []
  one : {kind : TokenKind} {c : ℕ} {w next : List ℕ} {tokens : List Token} → IsTokenIn edition next kind (c ∷ w)
      → Are edition next tokens → Are edition (c ∷ w ++ next) (record { kind = kind; len = bytes (c ∷ w) } ∷ tokens)

of_part : {mode : Mode} {cs : List ℕ} {tokens : List Token} → AreTokens mode cs tokens → (edition : Edition)
    → mode ≡ part edition → Are edition cs tokens
of_part (grammar.nothing) edition e = none
of_part (grammar.something p free rest) edition e =
    one (rw e at p) (of_part rest edition (rw e refl))
of_part (grammar.frontmatter_first body is_opening ends rest) edition e = absurd (cc e)

to_part : {edition : Edition} {cs : List ℕ} {tokens : List Token} → Are edition cs tokens
    → AreTokens (part edition) cs tokens
to_part none = grammar.nothing
to_part (one p rest) = grammar.something p (λ source. absurd (true≢false (sym source))) (to_part rest)

-- A change after the next character meets all conditions.
goes-behind : (kind : TokenKind) (d : ℕ) (s other : List ℕ) → Goes kind (d ∷ s) (d ∷ other)
goes-behind kind d s other = record { space = λ e stop. stop; line = λ e stop. stop }

is_space : TokenKind → Bool
is_space Whitespace = true
is_space kind = false

-- The text of a whitespace token consists of whitespace.
space-text : {next : List ℕ} {kind : TokenKind} {w : List ℕ} → IsTokenBefore next kind w → kind ≡ Whitespace
    → AreAll is_whitespace w
unfolding is_space
space-text w0 w1 = grind (arith, common_steps, is_space, not-true, by_symbol)

space-text-in : {edition : Edition} {next : List ℕ} {kind : TokenKind} {w : List ℕ} → IsTokenIn edition next kind w
    → kind ≡ Whitespace → AreAll is_whitespace w
space-text-in w0 w1 = grind (arith, common_steps, space-text)

kind-goes : (kind : TokenKind) (after : List ℕ) → NextIsNot (takes_in kind) after → Goes kind [] after
kind-goes kind after w2 = grind (arith, common_steps)

kind-space : (kind : TokenKind) → takes_in kind 10 ≡ true → kind ≡ Whitespace
kind-space kind w1 = grind (arith, common_steps)

-- ---- the possible next characters

-- Holds if the text starts with whitespace that does not become part of the last token; or if a newline becomes part of
-- the last token, and the text does not start with whitespace.
abbrev Parts : List Token → List ℕ → Type 0
Parts tokens after = (NextIs is_whitespace after × NextIsNot (last_takes_in tokens) after)
    ⊎ ((last_takes_in tokens 10 ≡ true) × NextIsNot is_whitespace after)

white-first : (c : ℕ) (w s : List ℕ) → AreAll is_whitespace (c ∷ w) → Changes (c ∷ w) (c ∷ w ++ s)
white-first c w s all = let white : is_whitespace c ≡ true =
    (and_parts (is_whitespace c) (list_all is_whitespace w) all).0 in changed (rw white refl) white

changes : {edition : Edition} {cs : List ℕ} {tokens : List Token} → Are edition cs tokens → (after : List ℕ)
    → Parts tokens after → Changes cs (cs ++ after)
changes {cs = cs} are after (inl e) =
    subst (λ (xs : List ℕ). Changes xs (cs ++ after)) (append-nil cs) (changes-past cs (changed refl e.0))
changes none after (inr e) = absurd (true≢false (sym e.0))
changes (one {kind} {c} {w} p none) after (inr e) =
    rw (append-nil w) (white-first c w after (space-text-in p (kind-space kind e.0)))
changes (one {c = c} {w = w} p (one q rest)) after (inr e) =
    rw append_assoc (changes-past (c ∷ w) (changes (one q rest) after (inr e)))

stays : {edition : Edition} {kind : TokenKind} {c : ℕ} {w next : List ℕ} {tokens : List Token}
    → IsTokenIn edition next kind (c ∷ w)
    → Are edition next tokens → is_malformed kind ≡ false → (after : List ℕ)
    → Parts (record { kind = kind; len = bytes (c ∷ w) } ∷ tokens) after
    → IsTokenIn edition (next ++ after) kind (c ∷ w)
stays {kind = kind} p none good after (inl e) =
    in-apart p (omega arith) good (changed refl e.0) (kind-goes kind after e.1)
stays {edition} {kind} p none good after (inr e) =
    let is = kind-space kind e.0 in rw is (kept (oldest edition) (the.whitespace (space-text-in p is) e.1))
stays {kind = kind} p (one {c = d} {w = v} {next = next} q rest) good after e =
    in-apart p (omega arith) good (changes (one q rest) after e)
    (goes-behind kind d (v ++ next) ((v ++ next) ++ after))

one-more : {edition : Edition} {kind : TokenKind} {c : ℕ} {w : List ℕ} (next after : List ℕ) {us : List Token}
    → IsTokenIn edition (next ++ after) kind (c ∷ w) → Are edition (next ++ after) us
    → Are edition ((c ∷ w ++ next) ++ after) (record { kind = kind; len = bytes (c ∷ w) } ∷ us)
one-more next after p rest = rw append_assoc (one p rest)

keeps : {edition : Edition} {cs : List ℕ} {tokens : List Token} → Are edition cs tokens → AreWellFormed tokens
    → {after : List ℕ} {others : List Token}
    → Are edition after others → Parts tokens after → Are edition (cs ++ after) (tokens ++ others)
keeps none closed more e = more
keeps (one p none) closed {after} more e = one-more [] after (stays p none closed.0 after e) more
keeps (one p (one {c = c} {w = w} {next = next} q rest)) closed {after} more e =
    one-more (c ∷ w ++ next) after (stays p (one q rest) closed.0 after e) (keeps (one q rest) closed.1 more e)

-- ---- texts

rest-is : (text after : List ℕ) → IsText (text ++ after) → IsUtf8 text → IsText after
rest-is text after is utf8 =
    rw drop-append_seam at (left_text (text ++ after) (length text) is (omega (arith, length-append text after))
    (rw take-append_seam utf8))

module _ (edition : Edition) where
  abbrev pub Tokens : List ℕ → List Token
  Tokens text = tokens_by (first_token_in edition) text

  are : (text : List ℕ) → IsText text → Are edition (chars text) (Tokens text)
  are text is = of_part (tokens-are text (part edition) is) edition refl

  read : (text : List ℕ) → IsText text → {cs : List ℕ} {tokens : List Token} → Are edition cs tokens → chars text ≡ cs
      → Tokens text ≡ tokens
  read text is tokens e = tokens-read (to_part tokens) text is e

  touches : (text after : List ℕ) → IsText text → IsText (text ++ after) → AreWellFormed (Tokens text)
      → Parts (Tokens text) (chars after)
      → MayTouch edition text after
  touches text after is whole closed e =
      read (text ++ after) whole (keeps (are text is) closed (are after (rest-is text after whole is.utf8)) e)
      (chars-append text after is.utf8)

  -- A text of whitespace only is one token.
  space-tokens : (s : List ℕ) → IsText s → 0 < length s → AreAll is_whitespace (chars s)
      → Tokens s ≡ record { kind = Whitespace; len = bytes (chars s) } ∷ []
  space-tokens s is some white = by_chars (chars s) refl white
    where
      by_chars : (cs : List ℕ) → chars s ≡ cs → AreAll is_whitespace cs
          → Tokens s ≡ record { kind = Whitespace; len = bytes (chars s) } ∷ []
      by_chars [] e all = absurd (omega (arith, some, ap length (empty-text s is e)))
      by_chars (c ∷ w) e all =
          rw e (read s is (one (kept (oldest edition) (the.whitespace all refl)) none) (e ∙ sym (append-nil (c ∷ w))))

  space-touches : (s piece : List ℕ) → IsText (s ++ piece) → IsText s → 0 < length s → AreAll is_whitespace (chars s)
      → NextIsNot is_whitespace (chars piece) → MayTouch edition s piece
  space-touches s piece whole is some white stop = let alone = space-tokens s is some white in
      touches s piece is whole (rw alone (refl, tt)) (inr (rw alone refl, stop))

pub newline-encoded : encode_utf8_all (10 ∷ []) ≡ 10 ∷ []
unfolding encode
newline-encoded = refl

pub space-encoded : encode_utf8_all (32 ∷ []) ≡ 32 ∷ []
unfolding encode
space-encoded = refl

begins : (edition : Edition) (space text : List ℕ) → IsText space → IsText (space ++ text)
    → AreAll is_whitespace (chars space) → NextIsNot is_whitespace (chars text) → MayTouch edition space text
begins edition space text w3 w4 w5 w6 = grind (arith, common_steps, tokens-nil, space-touches)

pub white_space_separates : (edition : Edition) → WhiteSpaceSeparates edition
white_space_separates edition = grind (arith, common_steps, touches, begins)

module _ (edition : Edition) (text piece : List ℕ) (is : IsText text) (utf8 : IsUtf8 piece)
    (room : length text + (length piece + 1) < 2 ^ 32) (closed : AreWellFormed (Tokens edition text)) where
  -- A whitespace character that does not become part of the last token is a separator.
  parts : (d : ℕ) → scalars (d ∷ []) ≡ true → encode_utf8_all (d ∷ []) ≡ d ∷ [] → is_whitespace d ≡ true
      → last_takes_in (Tokens edition text) d ≡ false → NextIsNot is_whitespace (chars piece)
      → IsSeparated edition text (d ∷ []) piece
  parts d scalar encoded white out stop =
      let its : IsUtf8 (d ∷ []) = (d ∷ [], (scalar, encoded)) in
      let shown : chars (d ∷ []) ≡ d ∷ [] = ap chars (sym encoded) ∙ chars-encodes (d ∷ []) scalar in
      let past : chars (d ∷ piece) ≡ d ∷ chars piece = rw shown at (chars-append (d ∷ []) piece its) in
      let longer : IsUtf8 (d ∷ piece) = IsUtf8-append (d ∷ []) piece its utf8 in
      let left : Tokens edition (text ++ (d ∷ piece)) ≡ Tokens edition text ++ Tokens edition (d ∷ piece) =
      touches edition text (d ∷ piece) is record {
        utf8 = IsUtf8-append text (d ∷ piece) is.utf8 longer;
        fits = omega (arith, length-append text (d ∷ piece));
      }
      closed (inl (rw past white, rw past out)) in
      let right : Tokens edition (d ∷ piece) ≡ Tokens edition (d ∷ []) ++ Tokens edition piece =
      space-touches edition (d ∷ []) piece record { utf8 = longer; fits = omega arith } record
      { utf8 = its; fits = omega arith } (omega arith) (rw (shown, white) refl) stop in
      rw right at left

  pub runs-on : AreInseparable edition text piece → RunsOn (Tokens edition text) (chars piece)
  runs-on apart = grind (
    arith,
    common_steps,
    touches,
    IsUtf8-append,
    length-append,
    parts,
    newline-encoded,
    space-encoded,
  )
