pub mod Asking
pub mod Learned
pub mod Readied
