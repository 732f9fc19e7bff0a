pub mod Story
pub mod View
pub mod Rule
pub mod Told
pub mod SeatStates
pub mod Handles
pub mod Boxed
