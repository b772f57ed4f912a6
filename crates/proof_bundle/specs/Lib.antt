pub mod Claims
pub mod Text
-- Steps
pub mod steps
