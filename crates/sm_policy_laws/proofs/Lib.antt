pub mod WordLemmas
pub mod PartLemmas
pub mod OrderLemmas
pub mod UnknownLemmas
pub mod RuleLemmas
pub mod StatementLemmas
pub mod PolicyLemmas
