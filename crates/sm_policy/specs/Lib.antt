pub mod Characters
pub mod Decisions
pub mod Laws
pub mod Patterns
pub mod PlaceSets
pub mod Spreads
pub mod Steps
