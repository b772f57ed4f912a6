-- what public contracts cite
pub mod Forest
pub mod Takes
pub mod Woods
pub mod Frame
-- the invariant of a forest
pub mod Kept
pub mod Kin
pub mod Live
pub mod Ready
pub mod Sound
