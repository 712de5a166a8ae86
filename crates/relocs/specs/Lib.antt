pub mod Built
pub mod Cover
pub mod Functions
pub mod Holders
pub mod Named
pub mod Regions
pub mod Sections
pub mod Spans
