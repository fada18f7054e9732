-- Two tokens, or two heads, compare equal with `==` exactly if they are the same.
use Rattle.std.proofs.Common.{rules, ◌≡◌, ◌↔◌, IsTrue, Bool, true, false, true≢false, refl, sym, ap, ◌∙◌, ◌==◌, List}
use Rattle.std.proofs.Common.{[], ◌∷◌, Option, ◌&&◌, inl, inr, arith}
use Rattle.std.specs.{Cmp.Derive.{of_values}, Option.{option_eq}}
use Rattle.std.proofs.lemmas.{Bool.{and_parts, eqb-true}, Grind.{common_steps}}
use denote.Enum.Bare.{same_true}
use denote.Enum.Compared.{Each, by}
use denote.Enum.Declared.{Record, Choice, values_one}
use denote.Struct.Field.{Field}
use mathlib.Core.Bool.{beq}
use Rattle.rustc_lexer.specs.contracts.head.HeadEq.TheImpl.Laws as equal
use Rattle.rustc_lexer.specs.contracts.head.HeadPartialEq.TheImpl as head
use Rattle.rustc_lexer.specs.contracts.token.DocStyle as doc_style
use Rattle.rustc_lexer.specs.contracts.token.TokenEq.TheImpl.Laws as token_equal
use Rattle.rustc_lexer.specs.contracts.token.TokenKind as token_kind
use Rattle.rustc_lexer.specs.contracts.token.TokenKindPartialEq.TheImpl as kind
use Rattle.rustc_lexer.specs.contracts.token.TokenPartialEq.TheImpl as token
use Rattle.rustc_lexer.specs.declared.head.Head.{Head}
use Rattle.rustc_lexer.specs.{Token}

-- Returns the result of `==` for two tokens.
abbrev pub is_same : Token → Token → Bool
is_same a b = token.ghosts.eq a b

-- Holds if values that compare equal are the same.
record Tells {K : Type 0} (E : K → K → Bool) : Type 0 where
  tells : (x y : K) → E x y ≡ true → x ≡ y

-- ---- the values of the fields

one : {K : Type 0} {E : K → K → Bool} → Tells E → Tells (λ (x y : K × Unit {0}). E x.0 y.0)
one t = record { tells = λ x y e i. (t.tells x.0 y.0 e i, tt) }

two : {J K : Type 0} {D : J → J → Bool} {E : K → K → Bool} → Tells D → Tells E
    → Tells (λ (x y : J × (K × Unit {0})). D x.0 y.0 && E x.1.0 y.1.0)
two {J} {K} {D} {E} t u = record {
  tells = λ x y e. let both = and_parts (D x.0 y.0) (E x.1.0 y.1.0) e in
      λ i. (t.tells x.0 y.0 both.0 i, (u.tells x.1.0 y.1.0 both.1 i, tt));
}

flag : Tells beq
flag = record { tells = λ x y e. grind (arith, common_steps) }

number : Tells ◌==◌
number = record { tells = λ x y e. eqb-true x y e }

option-tells : {K : Type 0} (E : K → K → Bool) → Tells E → (x y : Option K) → option_eq E x y ≡ true → x ≡ y
option-tells w0 t w2 w3 e = grind (arith, common_steps)

option : {K : Type 0} {E : K → K → Bool} → Tells E → Tells (option_eq E)
option {K} {E} t = record { tells = option-tells E t }

-- ---- enums, by the fields of each variant

abbrev AllTell : (Fss : List (List Field)) → Each Bool Fss → Type 0
AllTell [] es = Unit {0}
AllTell ([] ∷ Fss) es = AllTell Fss es.1
AllTell ((F ∷ Fs) ∷ Fss) es = Tells es.0 × AllTell Fss es.1

choices : (Fss : List (List Field)) (es : Each Bool Fss) → AllTell Fss es → (c d : Choice Fss)
    → by false false Fss es c d ≡ true → c ≡ d
choices [] es all c d e = absurd c
choices ([] ∷ Fss) es all (inl x) (inl y) e = refl
choices ([] ∷ Fss) es all (inr c) (inr d) e = ap inr (choices Fss es.1 all c d e)
choices ((F ∷ Fs) ∷ Fss) es all (inl x) (inl y) e = ap inl (all.0.tells x y e)
choices ((F ∷ Fs) ∷ Fss) es all (inr c) (inr d) e = ap inr (choices Fss es.1 all.1 c d e)
choices (Fs ∷ Fss) es all c d e = absurd (true≢false (sym e))

of_enum : (N : Record) (es : Each Bool N.parts) → AllTell N.parts es → Tells (of_values N false false es)
of_enum N es all =
    record { tells = λ a b e. values_one N a b (choices N.parts es all (N.as_values a) (N.as_values b) e) }

-- ---- tokens

kind-tells : Tells kind.ghosts.eq
kind-tells =
    let style = option (record { tells = same_true doc_style.the_type tt }) in
    of_enum token_kind.enum _ (search (rules, one, two, flag, number, style, option, common_steps) depth 12)

pub same_token : (a b : Token) → is_same a b ≡ true → a ≡ b
same_token a b e = grind (arith, common_steps, and_parts, kind-tells, eqb-true)

pub token_same : (a b : Token) → a ≡ b → is_same a b ≡ true
token_same a b e = ap (is_same a) (sym e) ∙ token_equal.laws-law.refl a

-- A result of `==` decides whether the tokens are the same.
pub decided_same : (answer : Bool) (a b : Token) → answer ≡ is_same a b → IsTrue answer ↔ (a ≡ b)
decided_same answer a b decided = (λ t. same_token a b (sym decided ∙ t), λ e. decided ∙ token_same a b e)

-- ---- heads

heads_by : (E : Option Token → Option Token → Bool) → ((x y : Option Token) → E x y ≡ true → x ≡ y) → (a b : Head)
    → (a.tokens_start == b.tokens_start &&
    (a.space_len == b.space_len && (E a.frontmatter b.frontmatter && a.body == b.body))) ≡ true
    → a ≡ b
heads_by E tells a b e = grind (arith, common_steps, and_parts, eqb-true)

abbrev pub is_same_head : Head → Head → Bool
is_same_head a b = head.ghosts.eq a b

pub decided_head : (answer : Bool) (a b : Head) → answer ≡ is_same_head a b → IsTrue answer ↔ (a ≡ b)
decided_head answer a b decided = (
  λ t. heads_by (option_eq is_same) (option-tells is_same (record { tells = same_token })) a b (sym decided ∙ t),
  λ e. decided ∙ (ap (head.ghosts.eq a) (sym e) ∙ equal.laws-law.refl a),
)
