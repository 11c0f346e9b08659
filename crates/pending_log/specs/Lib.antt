pub mod Extents
pub mod Looks
pub mod Parts
pub mod Pending
pub mod Rows
pub mod Tables
