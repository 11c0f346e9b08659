pub mod Entries
pub mod Hashes
pub mod Parted
pub mod Rooms
