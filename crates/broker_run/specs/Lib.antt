pub mod Closing
pub mod Promise
