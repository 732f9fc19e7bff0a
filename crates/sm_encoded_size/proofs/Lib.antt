pub mod FieldSizes
pub mod RequestSizes
pub mod SpelledLaws
pub mod TypedLemmas
pub mod BodySizes
pub mod SnapshotSizes
pub mod MeasureLemmas
