pub mod Playing
pub mod Ranging
pub mod Texts
