pub mod Kept
pub mod Loops
