-- The head of a text, and the offsets of its tokens.
use Rattle.std.proofs.Common.{◌≡◌, ◌↔◌, ℕ, zero, suc, ◌+◌, ◌≤◌, Bool, true, false, List, [], length, refl, sym, ap}
use Rattle.std.proofs.Common.{arith, drop, length-take-le, Option, None, IsCharBoundary}
use Rattle.std.proofs.lemmas.{Grind.{common_steps}, Str.{IsCharBoundary-start}}
use Rattle.rustc_lexer.specs.{Edition, Token, declared.head.Head.{Head}, Answers.{first_in}, Classes.{IsText}}
use Rattle.rustc_lexer.specs.Document.{body_start, head_tokens, tokens_start, document_by}
use Rattle.rustc_lexer.specs.{Edits.{body_in, KeepsHead, fragment_by}, LexedText.{edition_tokens_in, layout_in, start_in}}
use Rattle.rustc_lexer.specs.{LanguageText.{newest}, Partition.{Layout, tokens_in}, Relexer.{IsHeadOf}}
use Rattle.rustc_lexer.specs.Tokens.{bound, tokens_by}
use Rattle.rustc_lexer.specs.model.Document.{by_head, front_tokens, IsHeadIn, tokens_of_head}
use Rattle.rustc_lexer.proofs.lemmas.edits.FrontAndBack.{bound-take}
use Rattle.rustc_lexer.proofs.lemmas.heads.ByTokens.{bound-append, head_cuts, in_edition, some_head}

-- ---- the head of a document

body_by : (text : List ℕ) → body_start text ≡ tokens_start text + bound (head_tokens text) (length (head_tokens text))
body_by text = grind (arith, common_steps, length-take-le, bound-take)

pub whole_head : (text : List ℕ) → IsText text → (head : Head) → IsHeadOf text head → IsHeadIn document_by text head
whole_head text is head h = grind (arith, common_steps, body_by, head_cuts)

pub is_page : (text : List ℕ) (head : Head) → IsHeadIn document_by text head → IsHeadOf text head
is_page text head h = grind (arith, common_steps, h.layout_is (first_in newest), body_by)

-- ---- the head of a text, which is a whole document or a fragment

none_cut : (text : List ℕ) → IsText text → (k : ℕ) → k ≤ 0 → IsCharBoundary text (0 + bound [] k)
none_cut text is zero few = IsCharBoundary-start text is.utf8
none_cut text is (suc k) few = absurd (omega arith)

pub part_head : (text : List ℕ) → IsText text
    → IsHeadIn fragment_by text (record { tokens_start = 0; space_len = 0; frontmatter = None; body = 0 })
part_head text is = record { layout_is = λ first. refl; bare = λ none. refl; ends = refl; cuts = none_cut text is }

pub head_in : (whole : Bool) (text : List ℕ) → IsText text → (head : Head) × IsHeadIn (layout_in whole) text head
head_in true text is = let some = some_head text is in (some.0, whole_head text is some.0 some.1.of)
head_in false text is = (_, part_head text is)

-- The first token starts where the shebang line ends.
pub start_is : (whole : Bool) (text : List ℕ) (head : Head) → IsHeadIn (layout_in whole) text head
    → head.tokens_start ≡ start_in whole text
start_is true text head h = (is_page text head h).shebang_is
start_is false text head h = sym (ap (λ (l : Layout). l.start) (h.layout_is (first_in newest)))

pub edition_are : (whole : Bool) (edition : Edition) (text : List ℕ) → IsText text
    → tokens_in (layout_in whole (first_in edition) text) ≡ edition_tokens_in whole edition text
edition_are whole edition text w3 = grind (arith, common_steps, in_edition)

module _ {layout : (List ℕ → Token) → List ℕ → Layout} {text : List ℕ} {head : Head}
    (h : IsHeadIn layout text head) where
  pub boundary_of : IsCharBoundary text head.body
  boundary_of = rw h.ends (h.cuts (length (tokens_of_head head)) (omega arith))

  pub start_inside : head.tokens_start ≤ length text
  start_inside = omega (arith, (h.cuts 0 (omega arith)).0)

  pub all_are : (first : List ℕ → Token) → tokens_in (layout first text) ≡ tokens_in (by_head head first text)
  all_are first = rw (h.layout_is first)

  pub heads_are : (first : List ℕ → Token) → length (layout first text).head ≡ length (tokens_of_head head)
  heads_are first = rw (h.layout_is first)

  -- The body starts where the tokens of the head end.
  pub body_at : (first : List ℕ → Token) → body_in (by_head head first text) ≡ head.body
  body_at first = cc (bound-append (tokens_of_head head) (tokens_by first (drop head.body text)), h.ends)

-- ---- whether the head is kept

-- The tokens of a head determine its parts.
same-parts : (s s' : ℕ) (f f' : Option Token) → (f ≡ None → s ≡ 0) → (f' ≡ None → s' ≡ 0)
    → front_tokens s f ≡ front_tokens s' f' → (s ≡ s') × (f ≡ f')
same-parts s s' f f' w4 w5 w6 = grind (arith, common_steps)

module _ {layout : (List ℕ → Token) → List ℕ → Layout} {text made : List ℕ} {old now : Head}
    (old_is : IsHeadIn layout text old) (now_is : IsHeadIn layout made now) (first : List ℕ → Token) (start : ℕ) where
  pub head_stays : {of to : Layout} → of ≡ by_head old first text → to ≡ by_head now first made → KeepsHead of to start
      ↔ ((old ≡ now) × (old.body ≤ start))
  head_stays of_is to_is = rw (of_is, to_is) (
    kept,
    λ s. (
      omega (arith, s.1, body_at old_is first),
      ap (λ (h : Head). h.tokens_start) s.0,
      ap tokens_of_head s.0,
    ),
  )
    where
      kept : KeepsHead (by_head old first text) (by_head now first made) start → (old ≡ now) × (old.body ≤ start)
      kept k =
          let parts = same-parts old.space_len now.space_len old.frontmatter now.frontmatter old_is.bare now_is.bare
          k.2 in
          let end : old.body ≡ now.body = cc (old_is.ends, k.1, k.2, now_is.ends) in (
            (λ i. record { tokens_start = k.1 i; space_len = parts.0 i; frontmatter = parts.1 i; body = end i }),
            omega (arith, k.0, body_at old_is first),
          )
