pub mod DueLemmas
pub mod GrowthLemmas
pub mod CutLemmas
pub mod IdleLemmas
