pub mod RevisedLemmas
pub mod TagLemmas
pub mod TagCountLemmas
pub mod DeleteSecretLemmas
pub mod RestoreSecretLemmas
pub mod TagResourceLemmas
pub mod UntagResourceLemmas
