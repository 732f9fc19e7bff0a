pub mod FollowLemmas
pub mod SoundLaws
pub mod KeepingLaws
pub mod LawfulLaws
pub mod PlaceLemmas
pub mod JudgedLemmas
pub mod TakingLemmas
pub mod FaultLemmas
