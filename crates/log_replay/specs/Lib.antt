pub mod Replays
pub mod Settling
pub mod Told
pub mod Words
