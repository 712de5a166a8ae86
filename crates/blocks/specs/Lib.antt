pub mod Blocks
pub mod Faults
pub mod Reaches
pub mod Sound
pub mod Words
