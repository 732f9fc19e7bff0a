pub mod RotateSecret
pub mod CancelRotateSecret
pub mod WholeArns
pub mod Begun
pub mod Reported
