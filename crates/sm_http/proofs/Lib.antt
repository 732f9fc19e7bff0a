pub mod AheadLemmas
pub mod ChainLemmas
pub mod HeadLemmas
pub mod MessageLemmas
pub mod MoreBytesLemmas
pub mod OneReadingLemmas
pub mod ReaderLemmas
