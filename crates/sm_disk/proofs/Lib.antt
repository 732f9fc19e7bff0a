pub mod Syncs
pub mod Replays
pub mod Kept
pub mod Crashes
pub mod Runs
pub mod AllRuns
