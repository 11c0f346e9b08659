pub mod DigitLemmas
pub mod LineLemmas
mod LoadLemmas
