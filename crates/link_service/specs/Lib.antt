pub mod Clocks
pub mod Transcripts
pub mod Unfinished
