pub mod Gives
pub mod Layout
pub mod Reading
