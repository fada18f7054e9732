-- Lexing from left to right: the tokens so far are the first tokens of the text.
use Rattle.std.proofs.Common.{◌≡◌, ℕ, zero, suc, ◌+◌, ◌<◌, ◌≤◌, List, [], ◌∷◌, ◌++◌, length, take, drop, refl, ap}
use Rattle.std.proofs.Common.{◌∙◌, arith, length-drop, length-append, IsUtf8, IsCharBoundary, take_all}
use Rattle.std.proofs.lemmas.{List.{drop_all}, Str.{IsCharBoundary-from_drop}, Grind.{common_steps}}
use Rattle.rustc_lexer.specs.{Token, Classes.{IsText}, Locality.{Grammar, IsGrammar}, Tokens.{bound, tokens_by}}
use Rattle.rustc_lexer.specs.laws.Cuts.{IsCutAt, at_bound, tokens-cons, tokens-nil}

-- A stepper with the same grammar gives the same tokens.
pub same_first : {a b : Grammar} → a ≡ b → a.first ≡ b.first
same_first same = ap (λ (g : Grammar). g.first) same

-- Holds if x is item n of the list.
pub record IsNext (ts : List Token) (n : ℕ) (x : Token) : Type 0 where
  pub number : n < length ts
  pub more : take (suc n) ts ≡ take n ts ++ x ∷ []
  pub end : bound ts (suc n) ≡ bound ts n + x.len

pub next-from_drop : (ts : List Token) (n : ℕ) (x : Token) (rest : List Token) → drop n ts ≡ x ∷ rest → IsNext ts n x
next-from_drop [] zero x rest e = absurd (cc)
next-from_drop [] (suc n) x rest e = absurd (cc)
next-from_drop (t ∷ ts) zero x rest e = rw e record { number = omega arith; more = refl; end = omega arith }
next-from_drop (t ∷ ts) (suc n) x rest e = grind (arith, common_steps, next-from_drop ts n x rest e)

-- Holds if the items are the first tokens of the text, and end at `offset`.
pub record IsLexedTo (first : List ℕ → Token) (text : List ℕ) (items : List Token) (offset : ℕ) : Type 0 where
  pub number : length items ≤ length (tokens_by first text)
  pub items_are : items ≡ take (length items) (tokens_by first text)
  pub offset_is : offset ≡ bound (tokens_by first text) (length items)

pub record IsOffset (text : List ℕ) (offset : ℕ) : Type 0 where
  pub inside : offset ≤ length text
  pub boundary : IsCharBoundary text offset
  pub front : IsUtf8 (take offset text)
  pub past : IsText (drop offset text)

pub lexed_offset : {first : List ℕ → Token} (law : IsGrammar first) (text : List ℕ) (items : List Token) (offset : ℕ)
    → IsText text → IsLexedTo first text items offset → IsOffset text offset
lexed_offset law text items offset is at = grind (arith, common_steps, at_bound, IsCharBoundary-from_drop)

pub lexed_more : {first : List ℕ → Token} (law : IsGrammar first) (text : List ℕ) (items : List Token) (offset : ℕ)
    → IsText text → IsLexedTo first text items offset → offset < length text
    → IsLexedTo first text (items ++ first (drop offset text) ∷ []) (offset + (first (drop offset text)).len)
lexed_more {first} law text items offset is at more =
    let n : ℕ = length items in
    let x : Token = first (drop offset text) in
    let cut : IsCutAt first text (tokens_by first text) n = at_bound law n text is in
    let spot : IsOffset text offset = lexed_offset law text items offset is at in
    let some : 0 < length (drop offset text) = omega (arith, length-drop offset text) in
    let here : drop n (tokens_by first text) ≡ x ∷ tokens_by first (drop x.len (drop offset text)) =
    cc (cut.rest, at.offset_is, tokens-cons law (drop offset text) spot.past some) in
    let next : IsNext (tokens_by first text) n x = next-from_drop _ n x _ here in
    let long : length (items ++ x ∷ []) ≡ suc n = omega (arith, length-append items (x ∷ [])) in
    record {
      number = omega (arith, next.number);
      items_are = cc (at.items_are, next.more, long);
      offset_is = rw (long, next.end, at.offset_is) refl;
    }

pub none_more : (all : List Token) (count : ℕ) → drop count all ≡ [] → length all ≤ count
none_more all count none = omega (arith, length-drop count all, ap length none)

-- After the end of the text there are no tokens.
pub none_past : {first : List ℕ → Token} (law : IsGrammar first) (text : List ℕ) (n : ℕ) → IsText text
    → length text ≤ bound (tokens_by first text) n
    → length (tokens_by first text) ≤ n
none_past {first} law text n is all =
    none_more _ n (cc ((at_bound law n text is).rest, drop_all _ text all, tokens-nil first))

pub lexed_whole : {first : List ℕ → Token} (law : IsGrammar first) (text : List ℕ) (items : List Token) (offset : ℕ)
    → IsText text → IsLexedTo first text items offset → length text ≤ offset → items ≡ tokens_by first text
lexed_whole law text items offset is at all =
    at.items_are ∙ take_all _ _ (none_past law text (length items) is (omega (arith, at.offset_is)))

-- A step returns the token at the front of the rest, if the grammar is still the first one.
pub stepped : {first now : List ℕ → Token} (text : List ℕ) (offset : ℕ) {left : List ℕ} {token : Token}
    → token ≡ now left → now ≡ first → left ≡ drop offset text → token ≡ first (drop offset text)
stepped text offset e f h = cc
