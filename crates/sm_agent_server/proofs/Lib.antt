pub mod CourseLemmas
pub mod ConnectionLemmas
