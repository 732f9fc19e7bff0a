pub mod Visits
pub mod Standing
pub mod Histories
pub mod Laws
pub mod Connections
pub mod Lends
pub mod Places
pub mod Least
