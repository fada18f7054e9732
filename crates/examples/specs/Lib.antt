pub mod Comments
pub mod Joining
pub mod Repaint
