pub mod Held
pub mod Locks
pub mod Offsets
pub mod Table
