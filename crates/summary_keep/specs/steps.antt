pub mod Refinement
pub mod Pairing
