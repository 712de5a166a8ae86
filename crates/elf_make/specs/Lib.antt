pub mod Bytes
pub mod Rows
pub mod File
pub mod Parts
pub mod Ranges
pub mod Places
