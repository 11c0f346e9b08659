pub mod LogLemmas
pub mod KeepLemmas
