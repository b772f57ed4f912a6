pub mod Bodies
pub mod Matching
pub mod Keeping
pub mod Laws
pub mod steps
