pub mod Front
pub mod Tears
pub mod Settings
pub mod Readings
pub mod PlaceRuns
pub mod StandsLemmas
pub mod OpeningRuns
pub mod OneProof
