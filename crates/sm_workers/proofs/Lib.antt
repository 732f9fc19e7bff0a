pub mod KnownLemmas
pub mod ChainLemmas
pub mod ConnectionWorkerLemmas
pub mod RotationWorkerLemmas
pub mod WorkerLemmas
pub mod GivenLemmas
pub mod SendLemmas
pub mod RunLemmas
