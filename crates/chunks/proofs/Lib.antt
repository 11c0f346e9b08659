pub mod ChunkLemmas
pub mod SearchLemmas
