pub mod FreezeLemmas
pub mod LogLemmas
pub mod OpenLemmas
