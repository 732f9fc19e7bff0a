pub mod Kept
pub mod GetResourcePolicy
pub mod PutResourcePolicy
pub mod DeleteResourcePolicy
pub mod ValidateResourcePolicy
