pub mod Answers
pub mod ByParts
pub mod Entailment
pub mod steps
