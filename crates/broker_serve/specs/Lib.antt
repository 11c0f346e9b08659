pub mod Causes
pub mod Serves
pub mod Statuses
pub mod Unserved
