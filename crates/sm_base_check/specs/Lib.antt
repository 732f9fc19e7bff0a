pub mod Bases
pub mod Tests
pub mod Seen
