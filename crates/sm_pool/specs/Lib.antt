pub mod Drawing
pub mod Found
pub mod Holds
pub mod Ends
pub mod Asking
pub mod Turns
pub mod Alone
pub mod Rounds
