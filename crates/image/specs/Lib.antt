pub mod Aims
pub mod Jumps
pub mod Picture
pub mod Targets
pub mod Texts
