mod Pieces
pub mod Ready
mod Standing
pub mod Turns
