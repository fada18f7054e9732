pub mod JoiningLemmas
pub mod PieceLemmas
pub mod RepaintLemmas
