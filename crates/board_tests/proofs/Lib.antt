pub mod Staying
pub mod Plays
pub mod Published
pub mod FirstTakes
pub mod Informed
