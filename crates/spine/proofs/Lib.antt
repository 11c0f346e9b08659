pub mod Runs
pub mod AtTurn
pub mod Looking
