-- The definitions of the lexer. This file also exports the types of tokens and editions and their variants, which the
-- other files of this crate import from here: `use Rattle.rustc_lexer.specs.{Token, TokenKind, Ident}`.
pub mod Answers
pub mod Classes
pub mod Document
pub mod Edits
pub mod FrontmatterGrammar
pub mod GrammarLaws
pub mod Joined
pub mod LexedText
pub mod Kinds
pub mod Language
pub mod LanguageCalls
pub mod LanguageText
pub mod LiteralGrammar
pub mod Locality
pub mod NumberGrammar
pub mod Offsets
pub mod Partition
pub mod Relexer
pub mod State
pub mod Tables
pub mod Tokens
pub mod laws
pub mod model
pub use declared.edition.Edition.{Edition}
pub use declared.edition.Edition.TheVariants.*
pub use declared.token.{Base.Base, DocStyle.DocStyle, FrontmatterAllowed.FrontmatterAllowed, GuardedStr.GuardedStr}
pub use declared.token.{LiteralKind.LiteralKind, RawStrError.RawStrError, Token.Token, TokenKind.TokenKind}
pub use declared.token.Base.TheVariants.*
pub use declared.token.DocStyle.TheVariants.*
pub use declared.token.FrontmatterAllowed.TheVariants.*
pub use declared.token.LiteralKind.TheVariants.*
pub use declared.token.RawStrError.TheVariants.*
pub use declared.token.TokenKind.TheVariants.*
-- Each `TheVariants` above also exports a `the_data`. An import by name resolves that conflict.
use declared.token.TokenKind.TheVariants.{the_data}
