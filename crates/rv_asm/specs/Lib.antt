pub mod State
pub mod Order
pub mod Names
pub mod Faults
pub mod Emission
pub mod Kept
pub mod Assembly
