pub mod Apart
pub mod Moving
pub mod Places
pub mod Turning
