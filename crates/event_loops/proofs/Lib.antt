pub mod Counting
pub mod Entering
pub mod Timing
pub mod Told
