pub mod BeginLemmas
pub mod StepLemmas
pub mod MarkLemmas
pub mod KeptLemmas
pub mod SoundLemmas
pub mod VouchedLemmas
pub mod AttemptLemmas
