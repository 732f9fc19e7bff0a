pub mod Words
pub mod Steps
pub mod Messages
pub mod Asked
pub mod Lines
