pub mod MemberLemmas
pub mod TokenLemmas
pub mod VersionLemmas
pub mod OrderLemmas
