pub mod Bundling
pub mod steps
