pub mod Questions
pub mod Musts
pub mod SoFar
pub mod Fronts
pub mod Chains
pub mod Walks
