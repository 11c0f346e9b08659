pub mod Asked
pub mod Sounds
pub mod Texts
pub mod Tools
pub mod Writes
