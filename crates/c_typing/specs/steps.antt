pub mod LoweringSteps
pub mod Tables
pub mod Meanings
pub mod Least
pub mod Listed
pub mod FileScopes
pub mod Sides
pub mod Places
