-- The head of a document as numbers, and back.
use Rattle.std.proofs.Common.{◌≡◌, ℕ, zero, suc, Bool, true, not, List, drop, nat_eq, refl, sym, ap, ◌∙◌, subst, arith}
use Rattle.std.proofs.Common.{Option, Some, None}
use Rattle.std.proofs.lemmas.Grind.{common_steps}
use Rattle.rustc_lexer.specs.declared.{head.Head.{Head}, relex.change.Change.{Change}, token.Token.{Token}}
use Rattle.rustc_lexer.specs.{declared.token.TokenKind.{TokenKind}, Answers.{first_in}, Classes.{IsText}}
use Rattle.rustc_lexer.specs.{Document.{is_frontmatter}, LanguageText.{newest}, Locality.{IsGrammar}}
use Rattle.rustc_lexer.specs.{Relexer.{IsChange, IsEditOf, IsBodyChange, IsHeadOf}}
use Rattle.rustc_lexer.specs.laws.Edition.{edition_grammar}
use Rattle.rustc_lexer.proofs.lemmas.{heads.ByTokens.{some_head}, edits.ByLengths.{made_change}}
use Rattle.rustc_lexer_c.specs.declared.{head.CHead.{CHead}, relex.CEdit.{CEdit}}
use Rattle.rustc_lexer_c.specs.Head.{FindsHead, frontmatter_of, head_numbers, head_of, numbers_of_head}
use Rattle.rustc_lexer_c.specs.{Numbers.{bool_number, first_of, second_of, token_numbers}, Relex.{change_of}}

bool-back : (b : Bool) → not (nat_eq (bool_number b) 0) ≡ b
bool-back b = grind (arith, common_steps)

kind-back : (kind : TokenKind) (len : ℕ) → is_frontmatter kind ≡ true
    → frontmatter_of (token_numbers (record { kind = kind; len = len })) ≡ record { kind = kind; len = len }
unfolding token_numbers first_of second_of
kind-back kind len w2 = grind (arith, common_steps, bool-back)

-- Converting a head to numbers and back gives the same head.
back_with : (n end space : ℕ) (front : Option Token) → (front ≡ None → space ≡ 0)
    → ((t : Token) → front ≡ Some t → is_frontmatter t.kind ≡ true)
    → head_of (numbers_of_head (record { tokens_start = n; space_len = space; frontmatter = front; body = end })) ≡
    record { tokens_start = n; space_len = space; frontmatter = front; body = end }
unfolding token_numbers first_of second_of
back_with n end space None bare is = rw (bare refl) refl
back_with n end zero (Some t) bare is = rw (kind-back t.kind t.len (is t refl)) refl
back_with n end (suc m) (Some t) bare is = rw (kind-back t.kind t.len (is t refl)) refl

module _ (text : List ℕ) (is : IsText text) where
  -- A head of the text has the numbers of the text.
  pub numbers_are : (head : Head) → IsHeadOf text head → numbers_of_head head ≡ head_numbers text
  numbers_are head h = cc (h.shebang_is, h.end_is, h.tokens_are)

  -- The numbers of a text convert back to its head.
  pub head_back : IsHeadOf text (head_of (head_numbers text))
  head_back =
      let head = (some_head text is).1 in
      let back = back_with _ _ _ _ head.of.bare head.is_one in
      subst (IsHeadOf text) (sym (ap head_of (sym (numbers_are _ head.of)) ∙ back)) head.of

-- ---- an edit of the body

abbrev first : List ℕ → Token
first = first_in newest

-- Holds if the contract of `body_change` holds for each text before the edit.
abbrev pub Changes : CHead → CEdit → Head → Bool → Change → Type 0
Changes c edit now keeps change = (first : List ℕ → Token) (before insert text : List ℕ) → IsGrammar first
    → IsEditOf before (change_of edit) insert text → IsHeadOf before (head_of c) → IsHeadOf text now
    → IsBodyChange first before (change_of edit) insert text keeps change

module _ (text : List ℕ) (is : IsText text) (edit : CEdit) (c : CHead) (body : CEdit) (kept : ℕ) where
  -- The old numbers convert back to the old head.
  of_old : (before insert : List ℕ) → IsEditOf before (change_of edit) insert text → c ≡ head_numbers before
      → IsHeadOf before (head_of c)
  of_old before insert e same =
      rw same (head_back before e.is_text)

  refused_with : ((before insert : List ℕ) → IsEditOf before (change_of edit) insert text → c ≡ head_numbers before → ⊥)
      → FindsHead text edit c c body body kept kept 6
  refused_with none = grind (arith, common_steps)

  pub refused_edit : ¬ (IsChange text (change_of edit)) → FindsHead text edit c c body body kept kept 6
  refused_edit not = refused_with (λ before insert e same. not (made_change e))

  module _ (now : Head) (keeps : Bool) (change : Change) (is_now : IsHeadOf text now)
      (all : Changes c edit now keeps change) where
    pub refused_body : ¬ (IsChange (drop now.body text) change) → FindsHead text edit c c body body kept kept 6
    refused_body not = refused_with (λ before insert e same.
        let b = all first before insert text (edition_grammar newest) e (of_old before insert e same) is_now in
        not (rw is_now.end_is (made_change b.made_of.edit_of)))

    pub found : IsChange text (change_of edit) → IsChange (drop now.body text) change
        → FindsHead text edit c (numbers_of_head now) body
        (record { start = change.start; old_end = change.old_end; new_end = change.new_end }) kept
        (bool_number keeps) 0
    found fine may = record {
      status_is = grind (arith, common_steps);
      head = λ _. numbers_are text is now is_now;
      may_relex = λ _. rw is_now.end_is at may;
      change = λ _ grammar before insert law e same.
          (keeps, refl, all grammar before insert text law e (of_old before insert e same) is_now);
      refused = λ not. absurd (not refl);
    }
