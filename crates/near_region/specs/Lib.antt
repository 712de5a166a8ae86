pub mod Regions
pub mod Pages
