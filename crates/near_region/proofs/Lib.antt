mod Searching
pub mod Besides
mod Taking
mod Frees
mod Opens
