pub mod Services
pub mod Errors
pub mod Limits
pub mod State
pub mod Waiting
pub mod Fitting
pub mod Words
pub mod Calls
