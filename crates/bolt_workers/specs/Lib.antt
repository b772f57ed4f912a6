pub mod Later
-- No promise: what the contracts of private functions cite
pub mod steps
