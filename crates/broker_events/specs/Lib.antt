pub mod Makes
pub mod Replies
pub mod Served
pub mod Shown
pub mod Steps
