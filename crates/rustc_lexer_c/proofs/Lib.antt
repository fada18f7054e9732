pub mod BatchLemmas
pub mod EscapeLemmas
pub mod ErrorLemmas
pub mod HeadLemmas
pub mod OutputLemmas
pub mod RelexLemmas
pub mod BufferLemmas
pub mod SpliceLemmas
