pub mod Ending
pub mod Filled
pub mod Unlisted
