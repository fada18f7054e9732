-- The class of a token: what it is to a reader. It depends on the token's kind and text, and on the edition.
use Rattle.std.specs.Prelude.{ℕ, Bool, false, if◌then◌else◌, List, [], ◌∷◌, Some, None}
use Rattle.std.specs.Char.{is_ascii_uppercase}
use Rattle.rustc_lexer.specs.declared.edition.Edition.{Edition}
use Rattle.rustc_lexer.specs.declared.token.LiteralKind.{LiteralKind}
use Rattle.rustc_lexer.specs.declared.token.LiteralKind.TheVariants.{Int, Float}
use Rattle.rustc_lexer.specs.declared.token.TokenKind.{TokenKind}
use Rattle.rustc_lexer.specs.declared.token.TokenKind.TheVariants.{LineComment, BlockComment, Frontmatter, Ident}
use Rattle.rustc_lexer.specs.declared.token.TokenKind.TheVariants.{Literal, Lifetime as LifetimeToken, RawLifetime}
use Rattle.rustc_lexer.specs.declared.token.TokenKind.TheVariants.{UnknownPrefixLifetime}
use Rattle.rustc_lexer_highlight.specs.declared.class.Class.{Class}
use Rattle.rustc_lexer_highlight.specs.declared.keyword.KeywordKind.TheVariants.{Strict}
use Rattle.rustc_lexer_highlight.specs.Keyword.{has}
use Rattle.rustc_lexer_highlight.specs.declared.class.Class.TheVariants.{Plain, Comment, Doc, Keyword, TypeName, Text}
use Rattle.rustc_lexer_highlight.specs.declared.class.Class.TheVariants.{Escape, Number}
use Rattle.rustc_lexer_highlight.specs.declared.class.Class.TheVariants.{Lifetime}

-- Whether the name starts with an ASCII uppercase letter.
abbrev pub is_type_name : List ℕ → Bool
is_type_name [] = false
is_type_name (b ∷ bs) = is_ascii_uppercase b

abbrev pub word_class : List ℕ → Edition → Class
word_class word edition =
    if has Strict edition word then Keyword
    else (if is_type_name word then TypeName else Plain)

abbrev pub literal_class : LiteralKind → Class
literal_class (Int base empty_int) = Number
literal_class (Float base empty_exponent) = Number
literal_class kind = Text

abbrev pub class_of : TokenKind → List ℕ → Edition → Class
class_of (LineComment None) text edition = Comment
class_of (LineComment (Some style)) text edition = Doc
class_of (BlockComment None terminated) text edition = Comment
class_of (BlockComment (Some style) terminated) text edition = Doc
class_of (Frontmatter has_invalid_preceding_whitespace invalid_infostring) text edition = Doc
class_of Ident text edition = word_class text edition
class_of (Literal kind suffix_start) text edition = literal_class kind
class_of (LifetimeToken starts_with_number) text edition = Lifetime
class_of RawLifetime text edition = Lifetime
class_of UnknownPrefixLifetime text edition = Lifetime
class_of kind text edition = Plain

-- Returns the number of a class in the C ABI. It never changes: a new class gets a new number.
abbrev pub class_number : Class → ℕ
class_number Plain = 1
class_number Comment = 2
class_number Doc = 3
class_number Keyword = 4
class_number TypeName = 5
class_number Text = 6
class_number Escape = 7
class_number Number = 8
class_number Lifetime = 9
