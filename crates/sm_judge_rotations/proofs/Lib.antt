pub mod RotationLemmas
pub mod RotateSecretLemmas
pub mod CancelRotateSecretLemmas
pub mod ActLemmas
pub mod WholeArnLemmas
pub mod BegunLemmas
pub mod ReportedLemmas
