pub mod Heads
pub mod Ahead
pub mod Messages
pub mod Reading
pub mod Waiting
pub mod Chains
pub mod Fronts
pub mod Framed
