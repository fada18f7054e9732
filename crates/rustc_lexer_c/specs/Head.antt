-- The head of a document, as C sees it, and the change of the body by an edit of the document.
use Rattle.std.specs.Prelude.{ℕ, zero, suc, ◌≡◌, ◌≢◌, ◌<◌, ◌≤◌, ◌^◌, Bool, not, nat_eq, List, [], ◌∷◌, length, drop}
use Rattle.std.specs.Prelude.{get_or, Some, None}
use Rattle.std.specs.Str.{IsUtf8}
use Rattle.rustc_lexer.specs.declared.head.Head.{Head}
use Rattle.rustc_lexer.specs.declared.token.Token.{Token}
use Rattle.rustc_lexer.specs.declared.token.TokenKind.TheVariants.{Frontmatter}
use Rattle.rustc_lexer.specs.Classes.{IsText}
use Rattle.rustc_lexer.specs.Document.{body_start, head_tokens, tokens_start}
use Rattle.rustc_lexer.specs.Locality.{IsGrammar}
use Rattle.rustc_lexer.specs.Relexer.{IsChange, IsEditOf, IsBodyChange, tokens_of_head}
use Rattle.rustc_lexer_c.specs.declared.head.CHead.{CHead}
use Rattle.rustc_lexer_c.specs.declared.relex.CEdit.{CEdit}
use Rattle.rustc_lexer_c.specs.declared.token.CToken.{CToken}
use Rattle.rustc_lexer_c.specs.Batch.{no_token}
use Rattle.rustc_lexer_c.specs.Numbers.{bool_number, token_numbers}
use Rattle.rustc_lexer_c.specs.Relex.{change_of}
use Rattle.rustc_lexer_c.specs.declared.status.Refusal.TheVariants.{InvalidEdit, NotUtf8, TooLong}
use Rattle.rustc_lexer_c.specs.Status.{OK, refusal_number}

-- Returns the first two tokens as numbers, padded with zeros.
abbrev pub two_of : List Token → List CToken
two_of [] = no_token ∷ no_token ∷ []
two_of (a ∷ []) = token_numbers a ∷ no_token ∷ []
two_of (a ∷ b ∷ more) = token_numbers a ∷ token_numbers b ∷ []

-- Returns a head as numbers: the offset of its first token, the start of the body, and its tokens.
abbrev pub numbers_by : ℕ → ℕ → List Token → CHead
numbers_by shebang body tokens =
    record { tokens_start = shebang; body = body; count = length tokens; tokens = two_of tokens }

-- Returns the head of a text as numbers.
abbrev pub head_numbers : List ℕ → CHead
head_numbers text = numbers_by (tokens_start text) (body_start text) (head_tokens text)

-- Returns a head as numbers.
abbrev pub numbers_of_head : Head → CHead
numbers_of_head head = numbers_by head.tokens_start head.body (tokens_of_head head)

-- Returns the frontmatter with these numbers.
abbrev pub frontmatter_of : CToken → Token
frontmatter_of c =
    record { kind = Frontmatter (not (nat_eq c.first 0)) (not (nat_eq c.second 0)); len = c.len }

-- Returns the head with this number of tokens, which are `a` and `b`.
abbrev pub head_with : ℕ → Head → CToken → CToken → Head
head_with zero bare a b = bare
head_with (suc zero) bare a b = record bare { frontmatter = Some (frontmatter_of a) }
head_with (suc (suc n)) bare a b =
    record bare { space_len = a.len; frontmatter = Some (frontmatter_of b) }

abbrev pub head_of : CHead → Head
head_of c =
    let bare : Head =
    record { tokens_start = c.tokens_start; space_len = 0; frontmatter = None; body = c.body } in
    head_with c.count bare (get_or c.tokens 0 no_token) (get_or c.tokens 1 no_token)

-- Holds if a call that gets an edit of a document and the head before the edit returns this status. The call succeeds
-- if the edit turned a text with this head into the current text.
pub record IsHeadStatus (bytes : List ℕ) (edit : CEdit) (c : CHead) (status : ℕ) : Type 0 where
  pub ok : IsText bytes → (before insert : List ℕ) → IsEditOf before (change_of edit) insert bytes
      → c ≡ head_numbers before → status ≡ OK
  pub not_utf8 : length bytes < 2 ^ 32 → ¬ (IsUtf8 bytes) → status ≡ refusal_number NotUtf8
  pub too_long : 2 ^ 32 ≤ length bytes → status ≡ refusal_number TooLong
  pub invalid_edit : IsText bytes → ¬ (IsChange bytes (change_of edit))
      → status ≡ refusal_number InvalidEdit
  pub no_other : IsText bytes → status ≢ OK → status ≡ refusal_number InvalidEdit

-- A call writes the head of the current text, and an edit of the body from which relexing can start. If the edit turned
-- a text with the old head into the current text, the call writes the change of the body by that edit. If the call
-- fails, it changes nothing.
pub record FindsHead (text : List ℕ) (edit : CEdit) (c c' : CHead) (body body' : CEdit)
    (kept kept' status : ℕ) : Type 0 where
  pub status_is : IsHeadStatus text edit c status
  pub head : status ≡ OK → c' ≡ head_numbers text
  pub may_relex : status ≡ OK → IsChange (drop (body_start text) text) (change_of body')
  pub change : status ≡ OK → (first : List ℕ → Token) (before insert : List ℕ) → IsGrammar first
      → IsEditOf before (change_of edit) insert text → c ≡ head_numbers before
      → (k : Bool) × (kept' ≡ bool_number k)
      × IsBodyChange first before (change_of edit) insert text k (change_of body')
  pub refused : status ≢ OK → (c' ≡ c) × (body' ≡ body) × (kept' ≡ kept)
