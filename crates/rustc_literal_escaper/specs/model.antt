pub mod Elements
pub mod Escape
pub mod Plain
pub mod Single
pub mod Sinks
