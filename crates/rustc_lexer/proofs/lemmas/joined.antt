pub mod Apart
pub mod Joined
pub mod Separators
pub mod FinalBoundary
