pub mod Effects
pub mod Harts
