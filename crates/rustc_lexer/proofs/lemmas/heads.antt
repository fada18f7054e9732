pub mod ByTokens
pub mod DocumentTokens
