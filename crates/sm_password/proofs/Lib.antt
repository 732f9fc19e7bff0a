pub mod ClassLemmas
pub mod InsertedLemmas
pub mod PasswordLemmas
