pub mod Handing
pub mod Judging
