mod Receipts
pub mod ActLemmas
pub mod CountLemmas
mod StepLemmas
mod TurningLemmas
mod DelayLemmas
mod CheckLemmas
mod DueLemmas
