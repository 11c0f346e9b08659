pub mod BesideLemmas
pub mod FrontLemmas
pub mod KeyLemmas
pub mod LevelLemmas
pub mod QueueLemmas
pub mod RemovedLemmas
pub mod LogLemmas
