pub mod Judging
pub mod Effects
pub mod Histories
pub mod Vouching
pub mod Tokens
pub mod Replaying
