pub mod Shipped
pub mod Replicas
pub mod Taking
pub mod Answering
pub mod Promoting
pub mod Histories
pub mod Shipping
pub mod Laws
