pub mod OfLink
pub mod Timing
pub mod Transcribing
pub mod Went
