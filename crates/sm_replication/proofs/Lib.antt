pub mod ExtentLemmas
pub mod ParcelLaws
pub mod FrameLaws
mod WalkLemmas
mod AwaitLemmas
mod DecodeLemmas
mod EncodeLemmas
mod ReaderLemmas
