pub mod RowLemmas
pub mod ListLemmas
pub mod MapLemmas
pub mod HeardLemmas
pub mod ClientLemmas
pub mod BeatLemmas
