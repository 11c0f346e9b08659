pub mod KeptLemmas
mod CauseLemmas
mod ClosingLemmas
mod QuietLemmas
mod RunLemmas
