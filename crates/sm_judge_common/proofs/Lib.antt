pub mod SortingLemmas
pub mod SortingLaws
pub mod MemberLemmas
pub mod RegionLemmas
pub mod JudgedLemmas
pub mod ChangeLemmas
