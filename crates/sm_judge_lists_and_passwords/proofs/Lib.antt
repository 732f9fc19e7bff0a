pub mod PickedLemmas
pub mod PageLemmas
pub mod SerialOrderLemmas
pub mod BatchGetSecretValueLemmas
pub mod GetRandomPasswordLemmas
pub mod ListSecretVersionIdsLemmas
pub mod ListSecretsLemmas
