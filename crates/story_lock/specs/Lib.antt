pub mod Counts
pub mod Rule
pub mod Lent
pub mod Passes
pub mod Owned
pub mod Counting
