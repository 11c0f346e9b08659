pub mod Added
pub mod Answers
pub mod Bounds
pub mod Numbers
pub mod Rooms
pub mod Searches
pub mod Subscriptions
pub mod Tables
