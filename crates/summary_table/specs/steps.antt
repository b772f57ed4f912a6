pub mod Outcomes
pub mod Chains
