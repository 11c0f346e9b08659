pub mod Items
pub mod Asks
pub mod Rounds
pub mod Sums
pub mod Fills
pub mod Gens
