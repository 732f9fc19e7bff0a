pub mod Following
pub mod ReplayLaws
pub mod Lawful
pub mod Keeping
pub mod Replacing
pub mod Unlawful
pub mod Openings
