pub mod Claims
pub mod LiveClaims
pub mod Ready
pub mod Works
pub mod Due
pub mod Fresh
