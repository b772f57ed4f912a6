pub mod Reading
pub mod Bundles
