pub mod Frontmatter
pub mod LineEnds
