pub mod Classes
pub mod Passwords
