pub mod Linking
pub mod Frames
pub mod Walks
