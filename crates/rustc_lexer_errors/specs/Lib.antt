pub mod DocComment
pub mod Frontmatter
pub mod LineEnds
pub mod Literal
pub mod TextError
pub mod TokenError
pub mod laws
pub mod model
