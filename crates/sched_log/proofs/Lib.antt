pub mod Cuts
pub mod Pieces
pub mod PlanBack
pub mod Ranges
pub mod RoundTrip
pub mod Steps
pub mod Words
pub mod Writable
