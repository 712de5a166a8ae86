pub mod Pieces
pub mod Functions
pub mod Overview
pub mod Listing
