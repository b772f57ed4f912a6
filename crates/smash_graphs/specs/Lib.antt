pub mod Printed
-- Steps
pub mod steps
