pub mod Emitted
pub mod Entries
pub mod Placed
