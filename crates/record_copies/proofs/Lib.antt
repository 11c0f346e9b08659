pub mod NumberLemmas
mod Pairs
mod WholeLemmas
