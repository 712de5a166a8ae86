pub mod Ending
pub mod Harts
