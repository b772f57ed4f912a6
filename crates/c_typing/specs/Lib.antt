pub mod Scope
pub mod Faults
pub mod Lowering
pub mod Answer
pub mod Texts
pub mod steps
