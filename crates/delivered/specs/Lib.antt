pub mod Headline
pub mod Building
pub mod Deliveries
pub mod Events
