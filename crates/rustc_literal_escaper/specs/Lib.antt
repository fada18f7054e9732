pub mod Answers
pub mod Grammar
pub mod Items
pub mod Meaning
pub mod Numbers
pub mod Written
pub mod laws
pub mod model
