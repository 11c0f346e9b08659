pub mod Made
pub mod SendRows
