pub mod Members
pub mod Shown
pub mod Laws
pub mod Tokens
pub mod Versions
