pub mod Pieces
pub mod Gathering
pub mod OneReadings
pub mod Laws
