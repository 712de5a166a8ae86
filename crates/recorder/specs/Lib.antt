pub mod Journals
pub mod Marking
pub mod Numbers
pub mod Recording
pub mod Leaving
