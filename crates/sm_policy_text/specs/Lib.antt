pub mod Bodies
pub mod Documents
pub mod Kinds
pub mod Members
pub mod Reads
