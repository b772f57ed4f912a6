pub mod Bundles
pub mod Edits
pub mod Refused
pub mod Replay
pub mod Report
pub mod Sweeps
pub mod Usage
