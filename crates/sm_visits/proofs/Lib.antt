pub mod AloneLemmas
pub mod EndingLemmas
pub mod HistoryLemmas
pub mod LeastLemmas
pub mod OneWayLemmas
pub mod OpenLemmas
pub mod PlaceLemmas
