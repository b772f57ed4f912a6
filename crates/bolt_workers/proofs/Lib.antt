pub mod Bare
pub mod Alike
pub mod Later
pub mod Turns
pub mod Crews
pub mod Sent
