pub mod Freezes
pub mod Opens
