pub mod EncodedLemmas
pub mod EqualLemmas
pub mod Own
