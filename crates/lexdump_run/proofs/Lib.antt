pub mod JobLemmas
pub mod KnownLemmas
pub mod ListingLemmas
pub mod OutcomeLemmas
pub mod PlaceLemmas
pub mod PushLemmas
