pub mod TableLemmas
pub mod OffsetLemmas
pub mod LockLemmas
pub mod LockedLemmas
pub mod LoopLemmas
pub mod KeptLemmas
