pub mod Causes
pub mod Doors
pub mod Takings
pub mod Tales
pub mod Timing
