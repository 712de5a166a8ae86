pub mod Promise
pub mod Decision
pub mod Answer
pub mod Meaning
pub mod About
