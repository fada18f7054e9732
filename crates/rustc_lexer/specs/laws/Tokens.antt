-- The tokens of a whole text, read one by one, and their boundaries.
use Rattle.std.proofs.Common.{◌≡◌, ℕ, zero, suc, ◌<◌, ◌≤◌, List, [], ◌∷◌, length, drop, refl, ap, arith, length-drop}
use Rattle.std.specs.Str.{IsCharBoundary}
use Rattle.std.proofs.lemmas.Str.{IsCharBoundary-start, IsCharBoundary-from_rest, IsUtf8-take}
use Rattle.std.proofs.lemmas.{List.Elements.{All-nil, All-cons}, Grind.{common_steps}}
use Rattle.rustc_lexer.specs.{Token}
use Rattle.rustc_lexer.specs.Partition.{bound, Partitions}
use Rattle.rustc_lexer.specs.model.Tokens.{cut, tokens_of_source, read_tokens}
use Rattle.rustc_lexer.specs.LanguageText.{Mode, source, part, mode_after}
use Rattle.rustc_lexer.specs.laws.Edition.{edition_grammar}
use Rattle.rustc_lexer.specs.model.Taking.{token_at}
use Rattle.rustc_lexer.specs.laws.Cuts.{tokens-nil as part-nil, tokens-cons as part-cons}
use Rattle.rustc_lexer.specs.laws.Frontmatter.{frontmatter-cut, token_at-either}
use Rattle.rustc_lexer.specs.laws.Texts.{left_text}
use Rattle.rustc_lexer.specs.Classes.{IsText}

-- Holds if the token can be cut off the front of the text: the rest is a shorter text.
pub record CutsOff (text : List ℕ) (token : Token) : Type 0 where
  pub not_empty : 0 < token.len
  pub inside : token.len ≤ length text
  pub boundary : IsCharBoundary text token.len
  pub left : IsText (drop token.len text)

cuts-off : (text : List ℕ) (token : Token) → IsText text → 0 < token.len → IsCharBoundary text token.len
    → CutsOff text token
cuts-off text token is some bound =
    record {
      not_empty = some;
      inside = bound.0;
      boundary = bound;
      left = left_text text _ is bound.0 (IsUtf8-take text _ is.utf8 bound);
    }

pub token_at-cuts : (mode : Mode) (text : List ℕ) → IsText text → 0 < length text → CutsOff text (token_at mode text)
token_at-cuts mode text is some = token_at-either (λ (t : Token). CutsOff text t) mode text
    (λ edition. let law = edition_grammar edition in
    cuts-off text _ is (law.not_empty text is some) (law.boundary text is some))
    (λ opened. let off = frontmatter-cut text is.utf8 opened in cuts-off text _ is off.not_empty off.boundary)

pub shorter : (text : List ℕ) (token : Token) → CutsOff text token → length (drop token.len text) < length text
shorter text token cuts = let n = cuts.not_empty in let i = cuts.inside in omega (arith, length-drop token.len text)

-- Every sufficiently large step count gives the same tokens.
cut-enough : (mode : Mode) (m n : ℕ) (text : List ℕ) → IsText text → length text ≤ m → length text ≤ n
    → cut mode m text ≡ cut mode n text
cut-enough (part edition) m n text is a b = refl
cut-enough (source edition) zero zero [] is a b = refl
cut-enough (source edition) zero (suc n) [] is a b = refl
cut-enough (source edition) (suc m) zero [] is a b = refl
cut-enough (source edition) (suc m) (suc n) [] is a b = refl
cut-enough (source edition) zero n (c ∷ cs) is a b = absurd (omega arith)
cut-enough (source edition) (suc m) zero (c ∷ cs) is a b = absurd (omega arith)
cut-enough (source edition) (suc m) (suc n) (c ∷ cs) is a b =
    let token : Token = token_at (source edition) (c ∷ cs) in
    let cuts : CutsOff (c ∷ cs) token = token_at-cuts (source edition) (c ∷ cs) is (omega arith) in
    let less : length (drop token.len (c ∷ cs)) < suc (length cs) = shorter (c ∷ cs) token cuts in
    ap (λ ts. token ∷ ts) (cut-enough (mode_after (source edition) token.kind) m n (drop token.len (c ∷ cs)) cuts.left
    (omega arith) (omega arith))

pub tokens-nil : (mode : Mode) → read_tokens mode [] ≡ []
unfolding tokens_of_source
tokens-nil mode = grind (arith, common_steps, part-nil)

-- The tokens of a text are the first token and the tokens of the rest.
pub tokens-cons : (mode : Mode) (text : List ℕ) → IsText text → 0 < length text
    → read_tokens mode text ≡ token_at mode text ∷ read_tokens (mode_after mode (token_at mode text).kind)
    (drop (token_at mode text).len text)
unfolding tokens_of_source
tokens-cons w0 text is some =
    grind (arith, common_steps, part-cons, edition_grammar, token_at-cuts, shorter, cut-enough)

-- A property of all texts follows by induction on their tokens.
module _ (P : List ℕ → Mode → Type 0) (at_end : (mode : Mode) → P [] mode)
    (step : (text : List ℕ) (mode : Mode) → IsText text → 0 < length text
    → P (drop (token_at mode text).len text) (mode_after mode (token_at mode text).kind) → P text mode) where
  by_count : (n : ℕ) (text : List ℕ) (mode : Mode) → IsText text → length text ≤ n → P text mode
  by_count n [] mode is le = at_end mode
  by_count zero (c ∷ cs) mode is le = absurd (omega arith)
  by_count (suc n) (c ∷ cs) mode is le =
      let token : Token = token_at mode (c ∷ cs) in
      let cuts : CutsOff (c ∷ cs) token = token_at-cuts mode (c ∷ cs) is (omega arith) in
      let less : length (drop token.len (c ∷ cs)) < suc (length cs) = shorter (c ∷ cs) token cuts in
      step (c ∷ cs) mode is (omega arith)
      (by_count n (drop token.len (c ∷ cs)) (mode_after mode token.kind) cuts.left (omega arith))

  pub by_tokens : (text : List ℕ) (mode : Mode) → IsText text → P text mode
  by_tokens text mode is = by_count (length text) text mode is (omega arith)

-- The token boundaries of a text are its start and the boundaries of the rest.
bounds : (text : List ℕ) (token : Token) (left : List Token) → IsText text → CutsOff text token
    → Partitions (drop token.len text) left → (k : ℕ)
    → k ≤ suc (length left) → IsCharBoundary text (bound (token ∷ left) k)
bounds text token left is cuts rest zero le = IsCharBoundary-start text is.utf8
bounds text token left is cuts rest (suc k) le =
    IsCharBoundary-from_rest text token.len (bound left k) cuts.inside (rest.boundaries k (omega arith))

abbrev Parted : List ℕ → Mode → Type 0
Parted text mode = Partitions text (read_tokens mode text)

pub partitions : (text : List ℕ) (mode : Mode) → IsText text → Partitions text (read_tokens mode text)
partitions = by_tokens Parted
    (λ mode. rw (tokens-nil mode) record
    { not_empty = All-nil (λ t. 0 < t.len); boundaries = λ k le. grind (arith, common_steps); whole = refl })
    (λ text mode is some rest. rw (tokens-cons mode text is some) (let cuts = token_at-cuts mode text is some in
    record {
      not_empty = All-cons (λ t. 0 < t.len) _ _ cuts.not_empty rest.not_empty;
      boundaries = bounds text (token_at mode text) _ is cuts rest;
      whole = omega (arith, length-drop (token_at mode text).len text, cuts.inside, rest.whole);
    }))
