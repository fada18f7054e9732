pub mod Frontmatter
