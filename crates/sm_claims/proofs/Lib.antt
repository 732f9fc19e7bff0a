pub mod PlaceLemmas
pub mod LiveClaimLemmas
pub mod ReadyLemmas
pub mod DueLemmas
pub mod WorkLemmas
pub mod ArnLemmas
pub mod FreshLemmas
pub mod HeldLemmas
