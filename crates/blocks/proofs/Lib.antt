pub mod Reading
pub mod Cutting
pub mod Overlapping
pub mod Soundness
