pub mod Causes
pub mod Needed
pub mod Value
pub mod Bounds
pub mod Replies
pub mod Labels
pub mod Versions
pub mod Due
