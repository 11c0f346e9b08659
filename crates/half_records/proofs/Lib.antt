pub mod ListLemmas
pub mod OpenLemmas
pub mod HalvesLemmas
pub mod NamesLemmas
pub mod VerdictLemmas
