pub mod DayLemmas
pub mod RotationLemmas
