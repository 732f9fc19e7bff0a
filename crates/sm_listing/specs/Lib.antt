pub mod Beginnings
pub mod Filters
pub mod Following
pub mod Pages
pub mod PageTokens
pub mod Walks
