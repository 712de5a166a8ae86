pub mod Origins
pub mod Codes
pub mod Related
pub mod Steps
pub mod Changes
