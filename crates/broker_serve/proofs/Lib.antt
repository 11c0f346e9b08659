pub mod Causing
pub mod Serving
pub mod Storing
pub mod Telling
pub mod Unserving
