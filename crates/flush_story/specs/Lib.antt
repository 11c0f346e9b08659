pub mod Keeping
pub mod Story
pub mod Leads
