use Rattle.std.proofs.{Common.{◌≡◌, ◌∙◌, ℕ, false, arith, sym}, lemmas.Grind.{common_steps}}
use Rattle.rustc_lexer.specs.{declared.token.TokenKind.{TokenKind}, Kinds.{has_fields, kind_entry}}
use Rattle.rustc_lexer_c.specs.declared.token.CToken.{CToken}
use Rattle.rustc_lexer_c.specs.Numbers.{first_of as first_byte, second_of, third_of, token_numbers}
use Rattle.rustc_lexer_c.proofs.token.CTokenFromToken.from_token.Goals as goal

abbrev bare : TokenKind → ℕ → CToken
bare kind len = record { kind = (kind_entry kind).0; first = 0; second = 0; third = 0; suffix_start = 0; len = len }

bare_numbers : (kind : TokenKind) (len : ℕ) → has_fields kind ≡ false
    → bare kind len ≡ token_numbers record { kind = kind; len = len }
unfolding kind_entry has_fields token_numbers first_byte second_of third_of
bare_numbers kind len none = grind (arith, common_steps)

pub returns : goal.returns
returns c = c.bare.ensures ∙ bare_numbers _ _
    (sym c.has_fields.ensures ∙ c.if-has_fields.false)
