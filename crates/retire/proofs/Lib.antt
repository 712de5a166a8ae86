pub mod Closing
pub mod LeastSet
pub mod Marking
