pub mod Pages
pub mod Following
pub mod BatchGetSecretValue
pub mod GetRandomPassword
pub mod ListSecretVersionIds
pub mod ListSecrets
