pub mod Puts
pub mod Turns
