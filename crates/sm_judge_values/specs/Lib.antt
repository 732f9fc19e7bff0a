pub mod NewValue
pub mod CreateSecret
pub mod PutSecretValue
pub mod UpdateSecret
