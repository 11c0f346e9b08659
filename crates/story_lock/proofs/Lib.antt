pub mod Sums
pub mod Tables
pub mod TurnSteps
pub mod PassSteps
pub mod Between
pub mod Owned
pub mod Counting
