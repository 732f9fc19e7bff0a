pub mod AlikeLemmas
pub mod FilterLemmas
pub mod FollowLemmas
pub mod MarkLemmas
pub mod PartingLemmas
pub mod ValueLemmas
pub mod TokenLemmas
pub mod WalkLemmas
