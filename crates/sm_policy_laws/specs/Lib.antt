pub mod Words
pub mod Parts
pub mod Policies
pub mod Faults
pub mod Laws
