pub mod ChainLemmas
pub mod PlaceLemmas
pub mod QueryLemmas
pub mod RecordLemmas
pub mod CutLemmas
pub mod RemovalLemmas
pub mod PartedLemmas
pub mod KeyLemmas
