pub mod TextLemmas
pub mod PutLemmas
pub mod KeptLemmas
