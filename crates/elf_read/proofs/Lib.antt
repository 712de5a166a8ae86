pub mod BadLemmas
pub mod Loops
pub mod NameLemmas
pub mod RelocLemmas
pub mod Wholes
