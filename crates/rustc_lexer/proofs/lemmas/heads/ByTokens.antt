-- The head that is found in a document is the head that its tokens define: the tokens up to the frontmatter.
use Rattle.std.proofs.Common.{◌≡◌, ℕ, zero, suc, ◌+◌, ◌-◌, ◌≤◌, true, false, true≢false, List, [], ◌∷◌, ◌++◌, length}
use Rattle.std.proofs.Common.{length-append, length-drop, drop-drop, drop, refl, sym, ap, arith}
use Rattle.std.proofs.Common.{chars, Option, None, Some, IsCharBoundary}
use Rattle.std.proofs.{Math.Seq.{take-append_seam}, lemmas.Bool.{not-true}}
use Rattle.rustc_lexer.specs.{Edition, Token, TokenKind, declared.head.Head.{Head}, Classes.{IsText, bytes}}
use Rattle.rustc_lexer.specs.Answers.{first_in}
use Rattle.rustc_lexer.specs.Document.{is_frontmatter, tokens_start, document_tokens, head_count, head_tokens, document_by}
use Rattle.rustc_lexer.specs.model.Document.{front_tokens}
use Rattle.rustc_lexer.specs.LanguageText as grammar
use Rattle.rustc_lexer.specs.LanguageText.{AreTokens, IsTokenIn, Mode, is_source, mode_after, newest, part, source}
use Rattle.rustc_lexer.specs.{Partition.{tokens_in}, Relexer.{IsHeadOf}, Tokens.{bound}}
use Rattle.rustc_lexer.specs.laws.{Choice.{by_either, by_symbol}, LanguageTokens.{language}, Tokens.{partitions}}
use Rattle.rustc_lexer.specs.model.{Frontmatter.{frontmatter, opens, spaces_len}, Scan.{past}, Tokens.{read_tokens}}
use Rattle.rustc_lexer.proofs.lemmas.heads.DocumentTokens.{start-boundary, with-front, with-spaced, without-front}
use Rattle.rustc_lexer.proofs.lemmas.edits.FrontAndBack.{bound-same}
use Rattle.std.proofs.lemmas.{List.{length-take, take-take}, Str.{IsCharBoundary-from_rest, IsUtf8-drop}}
use Rattle.std.proofs.lemmas.Grind.{common_steps}

-- ---- no token of a fragment is a frontmatter

none-in : {edition : Edition} {next u : List ℕ} {kind : TokenKind} → IsTokenIn edition next kind u
    → is_frontmatter kind ≡ false
none-in w0 = grind (arith, common_steps, not-true, by_symbol)

stays-part : (mode : Mode) (kind : TokenKind) → is_source mode ≡ false → is_source (mode_after mode kind) ≡ false
stays-part mode kind w2 = grind (arith, common_steps)

head_count-later : (t : Token) (ts : List Token) → is_frontmatter t.kind ≡ false → head_count ts ≡ 0
    → head_count (t ∷ ts) ≡ 0
head_count-later t ts other none = grind (arith, common_steps)

no-front : {mode : Mode} {cs : List ℕ} {tokens : List Token} → AreTokens mode cs tokens → is_source mode ≡ false
    → head_count tokens ≡ 0
no-front grammar.nothing e = refl
no-front (grammar.something {mode} {kind} {c} {w} {next} {tokens} p free rest) e =
    head_count-later (record { kind = kind; len = bytes (c ∷ w) }) tokens (none-in p)
    (no-front rest (stays-part mode kind e))
no-front (grammar.frontmatter_first body is_opening ends rest) e = absurd (true≢false e)

part-none : (edition : Edition) (text : List ℕ) → IsText text → head_count (read_tokens (part edition) text) ≡ 0
part-none edition text is = no-front ((language text (part edition) is (read_tokens (part edition) text)).1 refl) refl

-- ---- the head

-- Holds if a text without shebang line starts with `space` bytes of whitespace and a frontmatter, which have `len`
-- bytes together, or if it has no frontmatter.
record IsFront (rest : List ℕ) (space : ℕ) (front : Option Token) (len : ℕ) : Type 0 where
  is_one : (t : Token) → front ≡ Some t → is_frontmatter t.kind ≡ true
  bare : front ≡ None → space ≡ 0
  ends : len ≡ bound (front_tokens space front) (length (front_tokens space front))
  tokens : (edition : Edition) → read_tokens (source edition) rest ≡ front_tokens space front ++ read_tokens
      (part edition) (drop len rest)

some-one : (text : List ℕ) (t : Token) → Some (frontmatter text) ≡ Some t → is_frontmatter t.kind ≡ true
unfolding frontmatter
some-one text t same = let is : frontmatter text ≡ t = cc in rw (← is) refl

some-end : (space : ℕ) (front : Token)
    → space + front.len ≡ bound (front_tokens space (Some front)) (length (front_tokens space (Some front)))
some-end zero front = omega arith
some-end (suc n) front = omega arith

count-front : (space : ℕ) (front : Option Token) (tokens : List Token)
    → ((t : Token) → front ≡ Some t → is_frontmatter t.kind ≡ true) → head_count tokens ≡ 0
    → head_count (front_tokens space front ++ tokens) ≡ length (front_tokens space front)
count-front space front tokens w3 w4 = grind (arith, common_steps)

pub bound-append : (ts us : List Token) → bound (ts ++ us) (length ts) ≡ bound ts (length ts)
bound-append [] us = refl
bound-append (t ∷ ts) us = cc (bound-append ts us)

-- Holds if this is the head of the text, and its frontmatter is a frontmatter token.
pub record IsHead (text : List ℕ) (head : Head) : Type 0 where
  pub of : IsHeadOf text head
  pub is_one : (t : Token) → head.frontmatter ≡ Some t → is_frontmatter t.kind ≡ true
  pub tokens : (edition : Edition)
      → front_tokens head.space_len head.frontmatter ++ read_tokens (part edition) (drop head.body text) ≡
      document_tokens edition text

module _ (text : List ℕ) (is : IsText text) where
  abbrev all : List Token
  all = document_tokens newest text

  rest_text : (rest : List ℕ) → rest ≡ drop (tokens_start text) text → IsText rest
  rest_text rest e =
      rw e record {
        utf8 = IsUtf8-drop text _ is.utf8 (start-boundary text is);
        fits = omega (arith, is.fits, length-drop (tokens_start text) text);
      }

  module _ (n : ℕ) (n_is : n ≡ tokens_start text) (rest : List ℕ) (rest_is : rest ≡ drop n text) where
    rest_same : rest ≡ drop (tokens_start text) text
    rest_same = cc

    head_is : {space : ℕ} {front : Option Token} {len : ℕ} → IsFront rest space front len → (body : ℕ) → body ≡ n + len
        → IsHead text record { tokens_start = n; space_len = space; frontmatter = front; body = body }
    head_is {space} {front} {len} at body body_is =
        let ts : List Token = front_tokens space front in
        let us : List Token = read_tokens (part newest) (drop len rest) in
        let whole : all ≡ ts ++ us = rw (← rest_same) (at.tokens newest) in
        let end : bound all (length ts) ≡ len = cc (whole, bound-append ts us, at.ends) in
        let cut : IsCharBoundary rest len = rw rest_same (rw end at
        ((partitions _ (source newest) (rest_text _ refl)).boundaries (length ts)
        (omega (arith, ap length whole, length-append ts us)))) in
        let behind : drop body text ≡ drop len rest = cc (drop-drop len n text) in
        let its = rest_text rest rest_same in
        let left : IsText (drop len rest) =
        record {
          utf8 = IsUtf8-drop rest len its.utf8 cut;
          fits = omega (arith, its.fits, length-drop len rest);
        } in
        let count : head_count all ≡ length ts =
        cc (whole, count-front space front us at.is_one (part-none newest (drop len rest) left)) in
        record {
          of = record {
            shebang_is = n_is;
            tokens_are = cc (count, whole, take-append_seam ts us);
            bare = at.bare;
            end_is = omega (arith, body_is, n_is, end, ap (bound all) count);
          };
          is_one = at.is_one;
          tokens = λ edition. cc (behind, at.tokens edition, rest_same);
        }

    pub head-front : (front : Token) → opens (chars rest) ≡ true → front ≡ frontmatter rest
        → IsHead text record { tokens_start = n; space_len = 0; frontmatter = Some front; body = n + front.len }
    head-front front opened e = rw e (head_is record {
      is_one = some-one rest;
      bare = λ none. refl;
      ends = omega arith;
      tokens = λ edition. with-front edition rest (rest_text rest rest_same) opened;
    } _ refl)

    module _ (tail : List ℕ) (none : opens (chars rest) ≡ false)
        (tail_is : tail ≡ past (spaces_len (chars rest)) rest) where
      pub head-spaced : (front : Token) → opens (chars tail) ≡ true → front ≡ frontmatter tail
          → IsHead text record {
            tokens_start = n;
            space_len = length rest - length tail;
            frontmatter = Some front;
            body = n + (length rest - length tail) + front.len;
          }
      head-spaced front opened e = rw e (head_is record {
        is_one = some-one tail;
        bare = λ none. absurd (cc);
        ends = some-end (length rest - length tail) (frontmatter tail);
        tokens = λ edition. with-spaced edition rest tail (rest_text rest rest_same) tail_is none opened;
      } _ (omega arith))

      pub head-none : opens (chars tail) ≡ false
          → IsHead text record { tokens_start = n; space_len = 0; frontmatter = None; body = n }
      head-none none_past = head_is record {
        is_one = λ t same. absurd (cc);
        bare = λ none. refl;
        ends = refl;
        tokens = λ edition. without-front edition rest tail (rest_text rest rest_same) tail_is none none_past;
      } _ (omega arith)

  abbrev rest : List ℕ
  rest = drop (tokens_start text) text

  abbrev past_space : List ℕ
  past_space = past (spaces_len (chars rest)) rest

  pub some_head : (head : Head) × IsHead text head
  some_head = by_either (opens (chars rest))
      (λ e. (_, head-front (tokens_start text) refl rest refl (frontmatter rest) e refl))
      (λ e. by_either (opens (chars past_space))
      (λ f. (_, head-spaced (tokens_start text) refl rest refl past_space e refl (frontmatter past_space) f refl))
      (λ f. (_, head-none (tokens_start text) refl rest refl past_space e refl f)))

  -- The layout of a document in an edition has the tokens of the document.
  pub in_edition : (edition : Edition) → tokens_in (document_by (first_in edition) text) ≡ document_tokens edition text
  in_edition edition =
      let some = some_head.1 in
      cc (some.of.tokens_are, some.of.end_is, some.tokens edition)

  -- The tokens of the head are cut at char boundaries.
  pub head_cuts : (k : ℕ) → k ≤ length (head_tokens text)
      → IsCharBoundary text (tokens_start text + bound (head_tokens text) k)
  head_cuts k few =
      let same : bound all k ≡ bound (head_tokens text) k =
      bound-same k all (head_tokens text)
      (sym (take-take k (head_count all) all (omega (arith, few, length-take (head_count all) all)))) in
      IsCharBoundary-from_rest text _ _ (start-boundary text is).0
      (rw same at ((partitions rest (source newest) (rest_text rest refl)).boundaries k
      (omega (arith, few, length-take (head_count all) all))))
