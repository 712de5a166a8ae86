pub mod FreeLaws
pub mod Taking
pub mod Giving
pub mod Whole
