pub mod Marks
pub mod References
