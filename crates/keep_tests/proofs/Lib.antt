pub mod Empty
pub mod Impossible
