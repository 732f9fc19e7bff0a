pub mod AccessRequests
pub mod Admission
pub mod Laws
