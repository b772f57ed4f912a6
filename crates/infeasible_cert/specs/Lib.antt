pub mod Refutation
pub mod Right
pub mod Terms
pub mod steps
