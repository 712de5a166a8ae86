pub mod Ascending
pub mod Counting
pub mod Last
pub mod Listing
pub mod Tallied
