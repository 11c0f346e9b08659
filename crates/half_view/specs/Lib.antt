pub mod Due
pub mod Halves
pub mod Heads
pub mod OfLog
pub mod Rooms
pub mod Times
