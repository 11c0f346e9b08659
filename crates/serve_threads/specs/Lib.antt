pub mod Causes
pub mod Kept
pub mod Links
pub mod Loops
pub mod Served
pub mod Worlds
