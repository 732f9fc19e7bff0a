pub mod NewValueLemmas
pub mod CreateSecretLemmas
pub mod PutSecretValueLemmas
pub mod UpdateSecretLemmas
