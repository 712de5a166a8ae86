pub mod Before
pub mod Kept
pub mod Named
pub mod OneProgram
pub mod Sizes
pub mod Walk
pub mod Words
