pub mod Flown
pub mod Going
pub mod Making
pub mod Notes
