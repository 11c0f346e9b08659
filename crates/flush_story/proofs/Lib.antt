pub mod Steps
pub mod NextBatch
pub mod Turns
pub mod Keeps
pub mod Placing
pub mod ActStory
