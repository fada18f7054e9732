-- Each token has the class and the error of the kind that `kind_of` returns for its numbers.
use Rattle.std.proofs.Common.{◌≡◌, List, ℕ, arith}
use Rattle.std.proofs.lemmas.Grind.{common_steps}
use Rattle.rustc_lexer.specs.declared.{edition.{Edition.{Edition}}, token.Token.{Token}}
use Rattle.rustc_lexer.specs.declared.token.LiteralKind.{LiteralKind, TheVariants.{Int, Float}}
use Rattle.rustc_lexer.specs.declared.token.TokenKind.{TokenKind, TheVariants.{Literal}}
use Rattle.rustc_lexer.specs.Kinds.{kind_entry, literal_entry}
use Rattle.rustc_lexer_c.specs.{declared.token.CToken.{CToken}, model.Errors.{kind_of}}
use Rattle.rustc_lexer_c.specs.Numbers.{first_of, literal_second, literal_third, second_of, third_of, token_numbers}
use Rattle.rustc_lexer_errors.specs.TokenError.{token_error}
use Rattle.rustc_lexer_highlight.specs.Class.{class_of}

abbrev AreKept : TokenKind → ℕ → List ℕ → Edition → Type 0
AreKept kind len text edition =
    let numbers : CToken = token_numbers record { kind = kind; len = len } in
    (class_of (kind_of numbers) text edition ≡ class_of kind text edition)
    × (token_error (kind_of numbers) text edition ≡ token_error kind text edition)

literal_kept : (kind : LiteralKind) (suffix_start len : ℕ) (text : List ℕ) (edition : Edition)
    → AreKept (Literal kind suffix_start) len text edition
unfolding kind_entry literal_entry token_numbers first_of second_of third_of literal_second literal_third
literal_kept (Int base empty_int) suffix_start len text edition = grind (arith, common_steps)
literal_kept (Float base empty_exponent) suffix_start len text edition = grind (arith, common_steps)
literal_kept kind suffix_start len text edition = grind (arith, common_steps)

are_kept : (kind : TokenKind) (len : ℕ) (text : List ℕ) (edition : Edition) → AreKept kind len text edition
unfolding kind_entry token_numbers first_of second_of third_of
are_kept (Literal kind suffix_start) len text edition = literal_kept kind suffix_start len text edition
are_kept kind len text edition = grind (arith, common_steps, literal_kept)

pub same_class : (it : Token) (token : CToken) (text : List ℕ) (edition : Edition) → token_numbers it ≡ token
    → class_of (kind_of token) text edition ≡ class_of it.kind text edition
same_class it token text edition same = rw (← same) (are_kept it.kind it.len text edition).0

pub same_error : (it : Token) (token : CToken) (text : List ℕ) (edition : Edition) → token_numbers it ≡ token
    → token_error (kind_of token) text edition ≡ token_error it.kind text edition
same_error it token text edition same = rw (← same) (are_kept it.kind it.len text edition).1
