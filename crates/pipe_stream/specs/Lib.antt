pub mod Asking
pub mod Piping
pub mod Serving
pub mod Telling
