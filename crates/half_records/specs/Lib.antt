pub mod Kept
pub mod Names
pub mod OfLog
pub mod Tables
pub mod Verdicts
