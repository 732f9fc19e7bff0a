pub mod Persons
pub mod Callers
pub mod Lines
pub mod Outcomes
pub mod Bounds
pub mod Spellings
