pub mod BodyLemmas
pub mod ItemLemmas
pub mod MemberLemmas
pub mod StatementLemmas
pub mod TextLemmas
