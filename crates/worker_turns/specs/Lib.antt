pub mod Turns
pub mod Acts
pub mod Turning
pub mod Delays
pub mod Checks
pub mod Due
