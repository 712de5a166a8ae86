pub mod Forbidden
pub mod Values
