pub mod KeepingUp
pub mod Working
