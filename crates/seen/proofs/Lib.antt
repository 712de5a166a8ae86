pub mod Lines
pub mod Words
pub mod Within
pub mod Entered
pub mod Drawn
