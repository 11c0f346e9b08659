pub mod Boxed
pub mod Entries
pub mod Owner
pub mod Stands
pub mod Seen
pub mod Passes
