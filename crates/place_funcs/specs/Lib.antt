pub mod Counts
pub mod Edges
pub mod Grouping
pub mod Groups
pub mod Links
pub mod Rows
