mod HoldLemmas
mod LateLemmas
mod AskingLemmas
mod CourseLemmas
mod TurnLemmas
mod AloneLemmas
mod BehindLemmas
pub mod RoundLemmas
