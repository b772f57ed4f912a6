pub mod Chained
pub mod Ready
