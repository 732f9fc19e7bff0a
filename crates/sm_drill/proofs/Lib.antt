mod TextLemmas
mod BodyLemmas
mod AskedLemmas
mod WordVectors
pub mod ReplyLemmas
