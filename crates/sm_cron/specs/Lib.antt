pub mod Civil
pub mod Days
pub mod Languages
pub mod Next
pub mod Sets
pub mod Spelling
