pub mod Hmac
pub mod Texts
pub mod Authorizations
pub mod Names
pub mod Canonical
pub mod Signatures
pub mod Outcomes
pub mod Laws
