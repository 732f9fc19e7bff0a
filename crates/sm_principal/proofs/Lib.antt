pub mod CallerLemmas
pub mod LineLemmas
pub mod PeopleLemmas
pub mod BoundLemmas
pub mod SpellingLemmas
