pub mod edits
pub mod heads
pub mod joined
pub mod tokens
