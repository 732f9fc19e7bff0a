pub mod Streams
pub mod Connections
