pub mod Levels
pub mod OfLog
pub mod Rooms
