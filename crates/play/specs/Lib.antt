pub mod Promise
pub mod Decision
pub mod Generated
pub mod Originals
pub mod Ready
pub mod Schedule
