-- Cutting a text: locality of lists of tokens, and the text after a token boundary.
use Rattle.std.proofs.lemmas.Grind.{common_steps}
use Rattle.std.proofs.Common.{◌≡◌, ℕ, zero, suc, ◌+◌, ◌<◌, ◌≤◌, List, [], ◌∷◌, ◌++◌, length, take, drop, refl, sym, ap}
use Rattle.std.proofs.Common.{◌∙◌, arith, length-drop, IsUtf8, chars, drop-drop, take-add, take-take, take-append-drop}
use Rattle.std.proofs.lemmas.{List.{drop-take}, Str.{chars-append, IsUtf8-append, IsUtf8-nil, IsUtf8-take}}
use Rattle.rustc_lexer.specs.{Token}
use Rattle.rustc_lexer.specs.Locality.{AgreePast, IsGrammar}
use Rattle.rustc_lexer.specs.Partition.{bound, cut_by, tokens_by}
use Rattle.rustc_lexer.specs.Classes.{IsText}
use Rattle.rustc_lexer.specs.laws.Reach.{past as alike_past}
use Rattle.rustc_lexer.specs.laws.Texts.{agree_inside, left_text}

-- Returns the first two characters of a text, or fewer at its end.
abbrev pub look : List ℕ → List ℕ
look text = take 2 (chars text)

-- The text after the first token is a text.
pub past_first : {first : List ℕ → Token} (law : IsGrammar first) (text : List ℕ) → IsText text → 0 < length text
    → IsText (drop (first text).len text)
past_first law text is some =
    left_text text _ is (law.boundary text is some).0 (IsUtf8-take text _ is.utf8 (law.boundary text is some))

pub shorter : {first : List ℕ → Token} (law : IsGrammar first) (text : List ℕ) → IsText text → 0 < length text
    → length (drop (first text).len text) < length text
shorter {first} law text is some = omega (arith, length-drop (first text).len text, law.not_empty text is some)

-- Every sufficiently large step count gives the same tokens.
pub cut-enough : {first : List ℕ → Token} (law : IsGrammar first) (m n : ℕ) (text : List ℕ) → IsText text
    → length text ≤ m → length text ≤ n → cut_by first m text ≡ cut_by first n text
cut-enough law zero zero [] is a b = refl
cut-enough law zero (suc n) [] is a b = refl
cut-enough law (suc m) zero [] is a b = refl
cut-enough law (suc m) (suc n) [] is a b = refl
cut-enough law zero n (c ∷ cs) is a b = absurd (omega arith)
cut-enough law (suc m) zero (c ∷ cs) is a b = absurd (omega arith)
cut-enough {first} law (suc m) (suc n) (c ∷ cs) is a b =
    let some : 0 < length (c ∷ cs) = omega arith in
    let less = shorter law (c ∷ cs) is some in
    ap (λ ts. first (c ∷ cs) ∷ ts) (cut-enough law m n _ (past_first law _ is some) (omega arith) (omega arith))

pub tokens-nil : (first : List ℕ → Token) → tokens_by first [] ≡ []
unfolding tokens_by
tokens-nil first = refl

-- The tokens of a text are the first token and the tokens of the rest.
pub tokens-cons : {first : List ℕ → Token} (law : IsGrammar first) (text : List ℕ) → IsText text → 0 < length text
    → tokens_by first text ≡ first text ∷ tokens_by first (drop (first text).len text)
unfolding tokens_by
tokens-cons law [] is some = absurd (omega arith)
tokens-cons {first} law (c ∷ cs) is some = grind (arith, common_steps, shorter, cut-enough, past_first)

-- Holds if token boundary k is in bounds, the text can be cut there, and the tokens after it are the tokens of the
-- rest.
pub record IsCutAt (first : List ℕ → Token) (text : List ℕ) (tokens : List Token) (k : ℕ) : Type 0 where
  pub inside : bound tokens k ≤ length text
  pub front : IsUtf8 (take (bound tokens k) text)
  pub past : IsText (drop (bound tokens k) text)
  pub rest : drop k tokens ≡ tokens_by first (drop (bound tokens k) text)

pub at_bound : {first : List ℕ → Token} (law : IsGrammar first) (k : ℕ) (text : List ℕ) → IsText text
    → IsCutAt first text (tokens_by first text) k
at_bound law zero text is = record { inside = omega arith; front = IsUtf8-nil; past = is; rest = refl }
at_bound {first} law (suc k) [] is =
    rw (tokens-nil first) record { inside = omega arith; front = IsUtf8-nil; past = is; rest = sym (tokens-nil first) }
at_bound {first} law (suc k) (c ∷ cs) is =
    let text : List ℕ = c ∷ cs in
    let some : 0 < length text = omega arith in
    let n : ℕ = (first text).len in
    let left : List ℕ = drop n text in
    let ih : IsCutAt first left (tokens_by first left) k = at_bound law k left (past_first law text is some) in
    let m : ℕ = bound (tokens_by first left) k in
    let whole : drop m left ≡ drop (n + m) text = drop-drop m n text in
    let cons : tokens_by first text ≡ first text ∷ tokens_by first left = tokens-cons law text is some in
    let front : IsUtf8 (take (n + m) text) =
    rw (take-add n m text) (IsUtf8-append _ _ (IsUtf8-take text n is.utf8 (law.boundary text is some)) ih.front) in
    let inside : n + m ≤ length text = let i = ih.inside in
    omega (arith, length-drop n text, (law.boundary text is some).0) in
    rw cons record {
      inside = inside;
      front = front;
      past = rw (← whole) ih.past;
      rest = ih.rest
          ∙ ap (tokens_by first) whole;
    }

-- If two texts start with the same two characters, they still do after a common prefix.
pub look-append : (xs ys zs : List ℕ) → IsUtf8 xs → look ys ≡ look zs → look (xs ++ ys) ≡ look (xs ++ zs)
look-append xs ys zs is same =
    rw (chars-append xs ys is, chars-append xs zs is) (alike_past 2 (chars xs) (chars zs) (chars ys) same)

-- Texts that agree after an offset agree after every earlier offset.
pub agree_before : (n m : ℕ) (text other : List ℕ) → IsUtf8 (take m (drop n text)) → AgreePast (n + m) text other
    → AgreePast n text other
agree_before n m text other front agree =
    let same : take m (drop n text) ≡ take m (drop n other) =
    sym (drop-take n m text) ∙ (ap (drop n) agree.below ∙ drop-take n m other) in
    let past : look (drop m (drop n text)) ≡ look (drop m (drop n other)) =
    rw (drop-drop m n text, drop-drop m n other) agree.past in
    let there : look (take m (drop n text) ++ drop m (drop n text)) ≡
    look (take m (drop n text) ++ drop m (drop n other)) = look-append _ _ _ front past in
    record {
      below = sym (take-take n (n + m) text (omega arith))
          ∙ (ap (take n) agree.below ∙ take-take n (n + m) other (omega arith));
      past = sym (ap look (take-append-drop m (drop n text)))
          ∙ (there ∙ (ap (λ zs. look (zs ++ drop m (drop n other))) same
          ∙ ap look (take-append-drop m (drop n other))));
    }

pub agree_left : (n m : ℕ) (text other : List ℕ) → AgreePast (n + m) text other
    → AgreePast m (drop n text) (drop n other)
agree_left n m text other agree = record {
  below = sym (drop-take n m text) ∙ (ap (drop n) agree.below ∙ drop-take n m other);
  past = rw (drop-drop m n text, drop-drop m n other) agree.past;
}

-- Locality: if two texts agree after token boundary k of one of them, their first k tokens are the same.
pub tokens_local : {first : List ℕ → Token} (law : IsGrammar first) (k : ℕ) (text other : List ℕ) → IsText text
    → IsText other → k ≤ length (tokens_by first text) → AgreePast (bound (tokens_by first text) k) text other
    → take k (tokens_by first other) ≡ take k (tokens_by first text)
tokens_local law zero text other is its few agree = refl
tokens_local {first} law (suc k) [] other is its few agree =
    absurd (let short : suc k ≤ length (tokens_by first []) = few in
    let none : length (tokens_by first []) ≡ 0 = ap length (tokens-nil first) in omega arith)
tokens_local {first} law (suc k) (c ∷ cs) other is its few agree =
    let text : List ℕ = c ∷ cs in
    let some : 0 < length text = omega arith in
    let n : ℕ = (first text).len in
    let left : List ℕ = drop n text in
    let m : ℕ = bound (tokens_by first left) k in
    let cons : tokens_by first text ≡ first text ∷ tokens_by first left = tokens-cons law text is some in
    let at : IsCutAt first left (tokens_by first left) k = at_bound law k left (past_first law text is some) in
    let agrees : AgreePast (n + m) text other = rw cons at agree in
    let fewer : suc k ≤ suc (length (tokens_by first left)) = rw cons at few in
    let near : AgreePast n text other = agree_before n m text other at.front agrees in
    let same : first other ≡ first text = law.local text other is its some near in
    let positive = law.not_empty text is some in
    let inside : n ≤ length other = agree_inside n text other (law.boundary text is some).0 near in
    let its_some : 0 < length other = omega arith in
    let front : IsUtf8 (take n other) = rw (← near.below) (IsUtf8-take text n is.utf8 (law.boundary text is some)) in
    let its_cons : tokens_by first other ≡ first text ∷ tokens_by first (drop n other) =
    tokens-cons law other its its_some ∙ ap (λ (t : Token). t ∷ tokens_by first (drop t.len other)) same in
    rw (cons, its_cons)
    (ap (λ ts. first text ∷ ts)
    (tokens_local law k left (drop n other) (past_first law text is some) (left_text other n its inside front)
    (omega arith) (agree_left n m text other agrees)))
