pub mod Asking
pub mod Counting
pub mod Delivering
pub mod Timing
pub mod Turns
pub mod Working
