pub mod WriteLemmas
pub mod ReportLemmas
pub mod ReadingLemmas
pub mod RunLemmas
pub mod SoundLemmas
