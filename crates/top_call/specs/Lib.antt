pub mod Call
pub mod Outside
pub mod Reading
pub mod Writing
