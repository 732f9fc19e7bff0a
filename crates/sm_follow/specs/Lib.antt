pub mod Outputs
pub mod InputTurns
pub mod Streams
pub mod Disks
pub mod Promotions
pub mod Steps
pub mod Laws
pub mod Actions
