pub mod Passing
pub mod Calls
pub mod Ended
pub mod Kept
pub mod Reports
