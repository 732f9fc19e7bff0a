mod ShipLemmas
mod AnswerLemmas
mod TakeLemmas
mod TimelyLemmas
pub mod PrefixLaws
