pub mod Configs
pub mod Faults
pub mod Reads
pub mod Texts
