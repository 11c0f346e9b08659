pub mod Beside
pub mod Equal
pub mod Fronts
