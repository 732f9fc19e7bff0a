pub mod Texts
pub mod Spellable
pub mod Typed
pub mod Files
