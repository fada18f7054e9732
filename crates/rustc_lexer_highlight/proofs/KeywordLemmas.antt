-- Words that are not keywords.
use Rattle.std.proofs.Common.{arith, ◌≡◌, ℕ, Bool, false, List, [], ◌∷◌, ◌++◌, ◌||◌, refl, sym, ◌∙◌, take, drop}
use Rattle.std.proofs.lemmas.{Grind.{common_steps}, List.Folds.{list_any-append}, Slice.Eq.{bytes_eq-Decides}}
use Rattle.std.specs.{List.{AllByRecursion, list_any}, Str.{bytes_eq}}
use Rattle.rustc_lexer_highlight.specs.Keyword.{has, is_in, is_later, made}
use Rattle.rustc_lexer_highlight.specs.declared.keyword.KeywordKind.{KeywordKind, TheVariants.{Strict}}
use Rattle.rustc_lexer.specs.declared.edition.Edition.{Edition, TheVariants.{E2015, E2018, E2024}}

infixr 20 ◌&◌
-- Pairs two facts.
pub ◌&◌ : {A B : Type 0} → A → B → A × B
◌&◌ a b = (a, b)

-- Returns twelve strict keywords of 2015, from the index `at` on.
abbrev pub strict_from : ℕ → List (List ℕ)
strict_from at = take 12 (drop at (made Strict E2015))

abbrev pub IsNoneOf : List ℕ → List (List ℕ) → Type 0
IsNoneOf word words = AllByRecursion (λ keyword. word ≡ keyword → ⊥) words

pub is_out : (words : List (List ℕ)) (word : List ℕ) → IsNoneOf word words → false ≡ is_in words word
is_out [] word others = refl
is_out (keyword ∷ words) word others = grind (arith, common_steps, bytes_eq-Decides, is_out words word others.1)

pub has_not : (sort : KeywordKind) (edition : Edition) (word : List ℕ) → IsNoneOf word (made sort E2015)
    → IsNoneOf word (made sort E2018) → IsNoneOf word (made sort E2024) → false ≡ has sort edition word
has_not sort edition word w3 w4 w5 = grind (arith, common_steps, is_out)

last_of : (p : List ℕ → Bool) (xs ys zs : List (List ℕ)) → list_any p xs ≡ false → list_any p ys ≡ false
    → list_any p (xs ++ (ys ++ zs)) ≡ list_any p zs
last_of p xs ys zs first second = grind (arith, common_steps, list_any-append p xs (ys ++ zs), list_any-append p ys zs)

none_later : (edition : Edition) (word : List ℕ) → IsNoneOf word (made Strict E2018) → (in_2015 : Bool)
    → in_2015 ≡ (in_2015 || is_later Strict edition word)
none_later edition word later in_2015 = grind (arith, common_steps, is_out)

-- A word that is not among the first 24 strict keywords of 2015, and not a strict keyword of a later edition, is a
-- strict keyword exactly if it is among the rest.
pub is_among_last : (edition : Edition) (word : List ℕ) → is_in (strict_from 0) word ≡ false
    → is_in (strict_from 12) word ≡ false
    → IsNoneOf word (made Strict E2018) → is_in (strict_from 24) word ≡ has Strict edition word
is_among_last edition word first second later =
    sym (last_of (λ keyword. bytes_eq keyword word) (strict_from 0) (strict_from 12) (strict_from 24) first second)
    ∙ none_later edition word later (is_in (made Strict E2015) word)
