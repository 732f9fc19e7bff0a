pub mod SeenLemmas
pub mod DifferLemmas
pub mod RisingLemmas
pub mod FieldLemmas
pub mod ArnLemmas
pub mod LabelLemmas
pub mod VersionLemmas
pub mod SoundLaws
