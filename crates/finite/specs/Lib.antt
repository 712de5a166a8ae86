pub mod First
pub mod Least
pub mod Lists
pub mod Maps
pub mod Spans
