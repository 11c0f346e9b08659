pub mod Reading
pub mod Turn
