pub mod Counting
pub mod Known
pub mod Moments
pub mod Parts
