pub mod Begin
pub mod Step
pub mod Vouched
