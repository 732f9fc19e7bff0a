pub mod Judged
pub mod Members
pub mod LabelsShown
pub mod Regions
pub mod Secrets
pub mod Refusals
pub mod Changes
