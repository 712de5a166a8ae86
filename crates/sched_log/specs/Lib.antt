pub mod Limits
pub mod Lines
pub mod Parts
pub mod Plans
pub mod Printed
pub mod Ranges
pub mod Script
