pub mod Asking
pub mod Causes
pub mod Deliveries
pub mod Flushing
pub mod Timing
pub mod Ways
pub mod Working
