pub mod Ends
pub mod Rejections
pub mod Source
