pub mod Calls
pub mod Goals
pub mod Patched
pub mod Reach
pub mod Texts
