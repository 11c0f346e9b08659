pub mod Later
pub mod Items
pub mod FirstFaults
pub mod FoundValues
