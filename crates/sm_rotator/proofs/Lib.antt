pub mod SameLemmas
pub mod ScriptLemmas
pub mod FloatLemmas
pub mod LocalLemmas
pub mod LineLemmas
