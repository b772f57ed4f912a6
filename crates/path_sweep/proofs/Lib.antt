pub mod Answered
mod Following
pub mod Folding
pub mod Stepping
pub mod Fitting
pub mod Guarding
pub mod Ordering
pub mod Bounds
pub mod Trees
pub mod Ending
pub mod Linked
pub mod Adding
pub mod Walking
pub mod Counting
pub mod Measuring
pub mod TermValues
pub mod Filling
pub mod Limiting
