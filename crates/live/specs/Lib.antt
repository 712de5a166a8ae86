pub mod Records
pub mod Lives
pub mod Decision
pub mod Ending
pub mod Promise
