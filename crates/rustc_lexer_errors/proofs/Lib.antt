pub mod DocCommentLemmas
pub mod FileErrorLemmas
pub mod FrontmatterLemmas
pub mod LineEndLemmas
pub mod PlaceLemmas
pub mod SingleErrorLemmas
pub mod TextErrorLemmas
