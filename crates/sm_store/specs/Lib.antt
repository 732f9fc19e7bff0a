pub mod Held
pub mod Stores
pub mod Filling
pub mod Loading
pub mod Files
pub mod Openings
pub mod Appends
